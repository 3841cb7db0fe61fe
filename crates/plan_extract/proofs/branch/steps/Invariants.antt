use Rattle.std.proofs.Common.{◌≡◌, ◌≤◌, ◌+◌, ◌^◌, ◌++◌, length, drop}
use Rattle.meaning.specs.Extract.{steps_of, all_columns}
use Rattle.plan_extract.specs.Lent.{exposures_of, values_in}
use Rattle.plan_extract.proofs.branch.steps.Given as goal

-- the steps so far, and those of the exposures that are left
abbrev pub invariant-loop-exposure : goal.invariant-loop-exposure
invariant-loop-exposure l = record {
  steps : steps_of l.fn.columns (exposures_of l.exposures) ≡ l.steps ++ steps_of l.columns (exposures_of (drop l.exposure-index l.exposures));
  columns : all_columns l.fn.columns (exposures_of l.exposures) ≡ all_columns l.columns (exposures_of (drop l.exposure-index l.exposures));
  few : length l.columns + values_in (exposures_of (drop l.exposure-index l.exposures)) ≤ 2 ^ 32;
}
