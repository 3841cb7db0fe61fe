use Rattle.std.proofs.Common.{◌≡◌, ◌<◌, ℕ, Some, slice_get}
use Rattle.meaning.specs.declared.types.Sort.TheVariants.{Int}
use Rattle.meaning.specs.Values.{Value}
use Rattle.meaning.specs.Integers.{IsInteger}
use Rattle.access_schema.proofs.bad_value.first_other.Given as goal

-- the values so far are integers where they have to be
abbrev pub invariant-loop-place : goal.invariant-loop-place
invariant-loop-place l = (k : ℕ) (c : Value) → k < l.place → slice_get l.sorts k ≡ Some Int → slice_get l.row k ≡ Some c → IsInteger c
