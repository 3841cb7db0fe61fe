use Rattle.std.proofs.Common.{◌≡◌, ◌≤◌, ◌+◌, ◌^◌, ◌++◌, length, drop}
use Rattle.meaning.specs.Extract.{places_of, columns_after}
use Rattle.plan_extract.proofs.branch.places.Given as goal

-- the places so far, and those of the values that are left
abbrev pub invariant-loop-value : goal.invariant-loop-value
invariant-loop-value l = record {
  places : places_of l.fn.columns l.vals ≡ l.places ++ places_of l.columns (drop l.value-index l.vals);
  columns : columns_after l.fn.columns l.vals ≡ columns_after l.columns (drop l.value-index l.vals);
  few : length l.columns + length (drop l.value-index l.vals) ≤ 2 ^ 32;
}
