use Rattle.std.proofs.Common.{◌∙◌, ap, refl, not}
use Rattle.access_schema.specs.Meaning.{meaning_of}
use Rattle.access_schema.proofs.Summing.{left_none, left_absent, left_more, left_all}
use Rattle.access_schema.proofs.costs.names_methods.Goals as goal

pub loop-left-init : goal.loop-left-init
loop-left-init c = left_none (meaning_of c.args.schema.now) c.args.branch.now.steps c.as_slice-left.result.now c.as_slice-left.ensures

pub returns-then-is_none : goal.returns-then-is_none
returns-then-is_none c = (
  λ yes. absurd cc,
  λ named. absurd (left_absent c.args.schema.now c.args.branch.now.steps c.loop-left.left.now c.step-item.result c.method.result c.in-len1-up.len_at_least c.step-item.is c.method.ensures
      (c.is_none.ensures ∙ ap not c.if-is_none.true) c.loop-left.invariant named),
)

pub loop-left-preserved : goal.loop-left-preserved
loop-left-preserved c =
    left_more c.args.schema.now c.args.branch.now.steps c.loop-left.left.now c.step-item.result c.method.result c.in-len1-up.len_at_least c.step-item.is c.method.ensures
    (c.is_none.ensures ∙ ap not c.if-is_none.false) c.loop-left.invariant

pub returns : goal.returns
returns c = (λ yes. left_all (meaning_of c.args.schema.now) c.args.branch.now.steps c.loop-left.left.now c.in_default.len_below c.loop-left.invariant, λ named. refl)
