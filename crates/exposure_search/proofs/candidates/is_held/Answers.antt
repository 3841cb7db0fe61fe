use Rattle.std.proofs.Common.{List, subst}
use Rattle.std.specs.Prelude.{slice_index_or}
use Rattle.std.proofs.lemmas.List.{take_all}
use Rattle.std.proofs.lemmas.Option.{slice_get-get_or}
use Rattle.lists.proofs.Booleans.{test_holds, test_fails}
use Rattle.homomorphism.proofs.Covering.{told, denied}
use Rattle.least_search.specs.declared.space.Move.{Move}
use Rattle.exposure_search.specs.Ahead.{facts_along}
use Rattle.exposure_search.specs.Candidates.{IsHeld}
use Rattle.exposure_search.proofs.Missing.{held_more, held_here}
use Rattle.exposure_search.proofs.candidates.is_held.Goals as goal

pub returns-then-holds : goal.returns-then-holds
returns-then-holds c =
    let step = slice_index_or c.args.path.now c.loop-step.step-index (record { fact = 0; method = 0; cost = 0 }) in
    test_holds (held_here c.args.facts.now c.args.path.now c.loop-step.step-index step (slice_get-get_or c.args.path.now c.loop-step.step-index (record { fact = 0; method = 0; cost = 0 }) c.loop-step-test.true) c.args.val.now (told _ c.holds.ensures c.if-holds.true))

pub loop-step-preserved : goal.loop-step-preserved
loop-step-preserved c =
    let step = slice_index_or c.args.path.now c.loop-step.step-index (record { fact = 0; method = 0; cost = 0 }) in
    held_more c.args.facts.now c.args.path.now c.loop-step.step-index step (slice_get-get_or c.args.path.now c.loop-step.step-index (record { fact = 0; method = 0; cost = 0 }) c.loop-step-test.true) c.args.val.now (denied _ c.holds.ensures c.if-holds.false) c.loop-step.invariant

pub returns : goal.returns
returns c =
    test_fails (subst (λ (path : List Move). IsHeld (facts_along c.args.facts.now path) c.args.val.now → ⊥) (take_all c.loop-step.step-index c.args.path.now c.loop-step-test.false) c.loop-step.invariant)
