-- What labelled values and facts feed a hasher, and that what `==` finds equal is fed alike.
use Rattle.std.specs.Prelude.{◌≡◌, ◌-◌, ◌%◌, [], ◌∷◌, ◌++◌, length, take, true}
use Rattle.std.proofs.Common.{ap, sym, true≢false}
use Rattle.std.specs.Cmp.{unsigned_Decides}
use Rattle.std.specs.Cmp.Lexicographic.{bytes_decides}
use Rattle.std.specs.Hash.{HashWrites, Alike, same_Alike, on_Alike, and-Alike, items_Alike, slice, u64}
use Rattle.meaning.specs.declared.types.Val.{Val}
use Rattle.meaning.specs.declared.types.Val.TheVariants.{Const, Label}
use Rattle.meaning.specs.declared.types.Ground.{Ground}
use Rattle.meaning.specs.contracts.types.ValPartialEq.TheImpl as val_eq
use Rattle.meaning.specs.contracts.types.GroundPartialEq.TheImpl as ground_eq

-- A text up to a whole word of eight bytes, behind a byte that no text has; and for a label a word with which no text begins.
abbrev pub val_input : Val → HashWrites
val_input (Const text) = text ∷ take (8 - length text % 8) (255 ∷ 0 ∷ 0 ∷ 0 ∷ 0 ∷ 0 ∷ 0 ∷ 0 ∷ []) ∷ []
val_input (Label label) = u64 (18446744073709551615 - label)

-- The relation, and then the values behind their number.
abbrev pub fact_input : Ground → HashWrites
fact_input fact = u64 fact.rel ++ slice val_input fact.vals

pub val_alike : Alike (val_eq.ghosts).eq val_input
val_alike = record { fed = by }
  where
    by : (v w : Val) → (val_eq.ghosts).eq v w ≡ true → val_input v ≡ val_input w
    by (Const c) (Const d) e = ap (λ text. val_input (Const text)) ((bytes_decides c d).0 e)
    by (Const c) (Label k) e = absurd (true≢false (sym e))
    by (Label j) (Const d) e = absurd (true≢false (sym e))
    by (Label j) (Label k) e = ap (λ label. val_input (Label label)) ((unsigned_Decides j k).0 e)

pub fact_alike : Alike (ground_eq.ghosts).eq fact_input
fact_alike = and-Alike (on_Alike (λ (fact : Ground). fact.rel) (same_Alike u64 unsigned_Decides)) (on_Alike (λ (fact : Ground). fact.vals) (items_Alike val_alike))
