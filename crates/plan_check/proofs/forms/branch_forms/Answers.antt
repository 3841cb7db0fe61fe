use Rattle.std.proofs.Common.{List, sym, subst, ◌∙◌}
use Rattle.std.specs.Prelude.{Contains}
use Rattle.meaning.specs.declared.types.Branch.{Branch}
use Rattle.access_schema.specs.Meaning.{meaning_of}
use Rattle.plan_check.specs.Forms.{IsBranchForm}
use Rattle.plan_extract.proofs.Zips.{zip_more}
use Rattle.plan_check.proofs.forms.branch_forms.Goals as goal

pub branch_form-requires : goal.branch_form-requires
branch_form-requires c =
    c.requires c.branch-item.result
    (subst (λ (branches : List Branch). Contains branches c.branch-item.result) c.as_slice-branches.ensures (c.loop-branch.branch-index, c.loop-branch-test.true, sym c.branch-item.is))

pub loop-branch-preserved : goal.loop-branch-preserved
loop-branch-preserved c =
    zip_more (IsBranchForm (meaning_of c.args.schema.now)) c.as_slice-branches.result.now c.loop-branch.forms.items
    c.push.new.self.items c.loop-branch.branch-index c.branch-item.result c.in_ok-branch_form.field-0
    c.loop-branch.invariant c.loop-branch-test.true c.branch-item.is c.in_ok-branch_form.ensures
    c.in_ok-push.ensures.items
