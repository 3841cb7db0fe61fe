use Rattle.std.proofs.Common.{◌≤◌, List, ℕ, length, Result, Ok, Err}
use Rattle.std.specs.Prelude.{IfOk}
use Rattle.meaning.specs.declared.types.Plan.{Plan}
use Rattle.plan_form.specs.declared.fault.PlanReadFault.{PlanReadFault}
use Rattle.plan_form.specs.Fitting.{PlanFits}
use Rattle.plan_form.specs.Grammar.{IsPlanText, places_of}
use Rattle.plan_form.proofs.TextLaws.{text_only}
use Rattle.plan_form.proofs.Sizes.{few_places, text_fits}
use Rattle.plan_form.proofs.read.read_plan.Goals as goal

fits : (text : List ℕ) (r : Result Plan PlanReadFault) → length text ≤ 1048576 → IfOk r (λ plan. IsPlanText text plan) → IfOk r (λ plan. PlanFits plan)
fits text (Ok plan) short read = text_fits text plan short read.1
fits text (Err fault) short read = tt

places : (text : List ℕ) (r : Result Plan PlanReadFault) → IfOk r (λ plan. IsPlanText text plan) → IfOk r (λ plan. places_of plan ≤ length text)
places text (Ok plan) read = few_places text plan read.1
places text (Err fault) read = tt

pub returns-in-Ok-clause-only : goal.returns-in-Ok-clause-only
returns-in-Ok-clause-only c = λ plan is.
    text_only c.args.bytes.now c.text_plan.result (rw c.in-Ok.ensures.text at c.text_plan.ensures.read) (rw c.in-Ok.ensures.text at c.text_plan.ensures.fault) plan is

pub returns-in-Ok-clause-fits : goal.returns-in-Ok-clause-fits
returns-in-Ok-clause-fits c = fits c.args.bytes.now c.text_plan.result c.requires (rw c.in-Ok.ensures.text at c.text_plan.ensures.read)

pub returns-in-Ok-clause-places : goal.returns-in-Ok-clause-places
returns-in-Ok-clause-places c = places c.args.bytes.now c.text_plan.result (rw c.in-Ok.ensures.text at c.text_plan.ensures.read)
