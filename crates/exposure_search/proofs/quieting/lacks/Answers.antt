use Rattle.std.proofs.Common.{List, subst}
use Rattle.std.specs.Prelude.{slice_index_or}
use Rattle.std.proofs.lemmas.List.{take_all}
use Rattle.std.proofs.lemmas.Option.{slice_get-get_or}
use Rattle.least_search.specs.declared.space.Move.{Move}
use Rattle.exposure_search.specs.Making.{IsMissing}
use Rattle.exposure_search.specs.Ahead.{facts_along}
use Rattle.exposure_search.proofs.Missing.{missing_more}
use Rattle.exposure_search.proofs.quieting.lacks.Goals as goal

pub loop-step-preserved : goal.loop-step-preserved
loop-step-preserved c =
    let step = slice_index_or c.args.path.now c.loop-step.step-index (record { fact = 0; method = 0; cost = 0 }) in
    missing_more c.args.facts.now c.args.path.now c.loop-step.step-index step (slice_get-get_or c.args.path.now c.loop-step.step-index (record { fact = 0; method = 0; cost = 0 }) c.loop-step-test.true) c.args.rel (c.may_have.ensures c.if-may_have.false) c.loop-step.invariant

pub returns : goal.returns
returns c e =
    subst (λ (path : List Move). IsMissing (facts_along c.args.facts.now path) c.args.rel) (take_all c.loop-step.step-index c.args.path.now c.loop-step-test.false) c.loop-step.invariant
