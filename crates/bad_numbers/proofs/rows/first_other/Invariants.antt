use Rattle.std.proofs.Common.{◌≡◌, ◌<◌, ℕ, Some, slice_get}
use Rattle.meaning.specs.declared.types.Sort.TheVariants.{Int}
use Rattle.bad_numbers.specs.Rows.{AreIntegersAt}
use Rattle.bad_numbers.proofs.rows.first_other.Given as goal

-- the integer columns so far have integers
abbrev pub invariant-loop-column : goal.invariant-loop-column
invariant-loop-column g l = (k : ℕ) → k < l.column → slice_get l.sorts k ≡ Some Int → AreIntegersAt (g.L.Listed.listed l.rows) k
