use Rattle.std.proofs.Common.{take}
use Rattle.std.specs.List.{AllZip}
use Rattle.access_schema.specs.Meaning.{meaning_of}
use Rattle.plan_check.specs.Forms.{IsBranchForm}
use Rattle.plan_check.proofs.forms.branch_forms.Given as goal

-- the queries of the branches so far
abbrev pub invariant-loop-branch : goal.invariant-loop-branch
invariant-loop-branch l = AllZip (IsBranchForm (meaning_of l.schema)) (take l.branch-index l.branches) l.forms.items
