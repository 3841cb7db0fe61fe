-- Values for some variables, and the assignments that agree with them (Abiteboul, Hull and Vianu 1995, valuations).
use Rattle.std.specs.Prelude.{◌≡◌, ℕ, List, map, slice_get, slice_index_or, Option, Some}
use Rattle.std.specs.List.{range_with_len}
use Rattle.meaning.specs.declared.types.Val.{Val}
use Rattle.meaning.specs.declared.types.Val.TheVariants.{Label}

-- An assignment agrees where each variable that has a given value has that value.
abbrev pub Agrees : List (Option Val) → (ℕ → Val) → Type 0
Agrees given a = (x : ℕ) (v : Val) → slice_get given x ≡ Some (Some v) → a x ≡ v

-- A variable is bound where it has a given value.
abbrev pub IsBound : List (Option Val) → ℕ → Type 0
IsBound given x = (v : Val) × (slice_get given x ≡ Some (Some v))

-- A list of values is an assignment, which gives each variable behind its end the label 0.
abbrev pub at : List Val → ℕ → Val
at values x = slice_index_or values x (Label 0)

-- The values of the first n variables, as a list.
abbrev pub values_of : ℕ → (ℕ → Val) → List Val
values_of n a = map a (range_with_len 0 n)
