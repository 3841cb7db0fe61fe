use Rattle.std.proofs.Common.{◌≡◌, ◌≤◌, length, sym, subst, arith}
use Rattle.std.specs.Prelude.{Contains}
use Rattle.access_schema.specs.Meaning.{meaning_of}
use Rattle.access_schema.proofs.Texts.{once_known, once_taken}
use Rattle.sql_select.specs.Known.{literals_in}
use Rattle.sql_conjunctive.specs.Queries.{IsSelectForm}
use Rattle.plan_check.specs.Forms.{IsBranchForm}
use Rattle.plan_check.specs.Trials.{AreTriable}
use Rattle.plan_check.specs.Verdicts.{IsLegalOver}
use Rattle.plan_extract.proofs.Zips.{zip_length}
use Rattle.plan_check.proofs.Fitting.{selects_triable, branches_triable, named_methods}
use Rattle.plan_check.proofs.Concluding.{verdict_is}
use Rattle.plan_check.proofs.judge_plan.judge_legal.Goals as goal

pub select_forms-requires : goal.select_forms-requires
select_forms-requires c = record {
  fits = λ select among. record { fits = c.requires.fits.fits select among; few = (c.requires.fits.bounded select among).froms };
}

pub branch_forms-requires : goal.branch_forms-requires
branch_forms-requires c = λ branch among. record { named = named_methods (meaning_of c.args.schema.now) c.args.known.now branch (c.requires.legal.lawful branch among).1; few = c.requires.columns branch among }

pub try_both-requires-clause-selects : goal.try_both-requires-clause-selects
try_both-requires-clause-selects c =
    subst (AreTriable (meaning_of c.args.schema.now) c.args.known.now) (sym c.as_slice.ensures.value)
    (selects_triable c.args.schema.now c.args.known.now c.args.statement.now.selects c.in_ok-selects.selects.items
    (λ text there. subst (λ known. Contains known text) (sym c.requires.known) (once_taken c.args.schema.now.constants (literals_in c.args.statement.now.selects) text there))
    (λ select among. (c.requires.fits.bounded select among).froms) c.requires.fits.sorted c.in_ok-selects.ensures)

pub try_both-requires-clause-branches : goal.try_both-requires-clause-branches
try_both-requires-clause-branches c =
    subst (AreTriable (meaning_of c.args.schema.now) c.args.known.now) (sym c.as_slice-2.ensures.value)
    (branches_triable c.args.schema.now c.args.known.now c.args.plan.now.branches c.in_ok-branches.branches.items
    (λ branch among. (c.requires.legal.lawful branch among).1) c.requires.columns c.in_ok-branches.ensures)

pub try_both-requires-clause-few_selects : goal.try_both-requires-clause-few_selects
try_both-requires-clause-few_selects c =
    let long = zip_length (IsSelectForm c.args.schema.now) c.args.statement.now.selects c.in_ok-selects.selects.items c.in_ok-selects.ensures in
    let count : length c.args.statement.now.selects ≤ 16 = c.requires.fits.few in
    rw c.as_slice.ensures.value (omega arith)

pub try_both-requires-clause-few_branches : goal.try_both-requires-clause-few_branches
try_both-requires-clause-few_branches c =
    let long = zip_length (IsBranchForm (meaning_of c.args.schema.now)) c.args.plan.now.branches c.in_ok-branches.branches.items c.in_ok-branches.ensures in
    let count = c.requires.few.branches in
    rw c.as_slice-2.ensures.value (omega arith)

pub try_both-requires-clause-known : goal.try_both-requires-clause-known
try_both-requires-clause-known c = λ text among.
    subst (λ known. Contains known text) (sym c.requires.known) (once_known c.args.schema.now.constants (literals_in c.args.statement.now.selects) text among)

pub returns : goal.returns
returns c =
    verdict_is c.args.schema.now c.args.statement.now c.args.plan.now c.args.firings c.in_ok-selects.selects.items c.in_ok-branches.branches.items
    (subst (IsLegalOver c.args.schema.now c.args.statement.now c.args.plan.now) c.requires.known c.requires.legal) c.in_ok-selects.ensures c.in_ok-branches.ensures c.in_ok-verdict.verdict
    (rw (c.as_slice.ensures.value, c.as_slice-2.ensures.value) at c.in_ok-verdict.ensures)
