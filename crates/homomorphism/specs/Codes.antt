-- Codes: numbers that tell nearly all keys apart. No proof rests on that they do.
use Rattle.std.specs.Prelude.{◌+◌, ◌*◌, ◌%◌, ◌^◌, ℕ}
use Rattle.lists.specs.Hash.{mix}
use Rattle.meaning.specs.declared.types.Val.{Val}
use Rattle.meaning.specs.declared.types.Val.TheVariants.{Const, Label}
use Rattle.homomorphism.specs.declared.key.Key.{Key}
use Rattle.homomorphism.specs.declared.key.Key.TheVariants.{Relation, Value}

-- A number mixed into a code.
abbrev pub mixed : ℕ → ℕ → ℕ
mixed code number = ((code * 11400714819323198485) % 2 ^ 64 + number) % 2 ^ 64

-- The code of a text is a hash, and that of a label its number.
abbrev pub val_code : Val → ℕ
val_code (Const text) = mix 14695981039346656037 text
val_code (Label label) = label

abbrev pub place_code : ℕ → ℕ → ℕ
place_code rel position = mixed (mixed 1 rel) position

unfoldable pub key_code : Key → ℕ
key_code (Relation rel) = rel
key_code (Value rel position val) = mixed (place_code rel position) (val_code val)
