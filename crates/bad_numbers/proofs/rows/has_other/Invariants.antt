use Rattle.std.proofs.Common.{◌≡◌, ◌<◌, [], ℕ, Some, get_or, slice_get}
use Rattle.meaning.specs.Values.{Value}
use Rattle.meaning.specs.Integers.{IsInteger}
use Rattle.bad_numbers.proofs.rows.has_other.Given as goal

-- the rows so far have integers in the column
abbrev pub invariant-loop-number : goal.invariant-loop-number
invariant-loop-number g l = (k : ℕ) (value : Value) → k < l.number → slice_get (get_or (g.L.Listed.listed l.rows) k []) l.column ≡ Some value → IsInteger value
