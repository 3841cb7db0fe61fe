use Rattle.std.proofs.Common.{◌≡◌, drop}
use Rattle.meaning.specs.Judge.{columns_of}
use Rattle.access_schema.specs.Meaning.{meaning_of}
use Rattle.plan_check.proofs.Branching.{GoOn}
use Rattle.plan_check.proofs.branch_query.atoms.Given as goal

-- the atoms so far go on with those of the steps that are left
abbrev pub invariant-loop-step : goal.invariant-loop-step
invariant-loop-step l = record {
  atoms : GoOn (meaning_of l.schema) l.steps l.atoms.items l.columns (drop l.step-index l.steps);
  columns : columns_of 0 l.steps ≡ columns_of l.columns (drop l.step-index l.steps);
}
