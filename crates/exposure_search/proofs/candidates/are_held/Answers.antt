use Rattle.std.proofs.Common.{List, sym, subst}
use Rattle.std.proofs.lemmas.List.{take_all}
use Rattle.lists.proofs.Places.{got_indexed}
use Rattle.lists.proofs.Booleans.{test_holds, test_fails}
use Rattle.meaning.specs.declared.types.Val.{Val}
use Rattle.homomorphism.proofs.Covering.{told, denied}
use Rattle.exposure_search.specs.Ahead.{facts_along}
use Rattle.exposure_search.specs.Candidates.{IsHeld, AreHeld}
use Rattle.exposure_search.proofs.Wanting.{front_each}
use Rattle.exposure_search.proofs.candidates.are_held.Goals as goal

pub returns-then-not-is_held : goal.returns-then-not-is_held
returns-then-not-is_held c = test_fails (λ all. denied _ c.is_held.ensures c.if-not-is_held.true (all c.val-item.result (c.loop-val.val-index, c.loop-val-test.true, sym c.val-item.is)))

pub loop-val-preserved : goal.loop-val-preserved
loop-val-preserved c =
    front_each (IsHeld (facts_along c.args.facts.now c.args.path.now)) c.args.vals.now c.loop-val.val-index c.val-item.result (got_indexed c.args.vals.now c.loop-val.val-index c.val-item.result c.loop-val-test.true c.val-item.is)
    c.loop-val.invariant (told _ c.is_held.ensures c.if-not-is_held.false)

pub returns : goal.returns
returns c = test_holds (subst (λ (vals : List Val). AreHeld (facts_along c.args.facts.now c.args.path.now) vals) (take_all c.loop-val.val-index c.args.vals.now c.loop-val-test.false) c.loop-val.invariant)
