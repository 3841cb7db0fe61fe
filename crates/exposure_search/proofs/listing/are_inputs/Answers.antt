use Rattle.std.proofs.Common.{subst}
use Rattle.std.proofs.lemmas.List.{take_all}
use Rattle.lists.proofs.Booleans.{test_holds, test_fails}
use Rattle.homomorphism.proofs.Covering.{told, denied}
use Rattle.accessible_copy.specs.Known.{known_values}
use Rattle.accessible_copy.specs.Listing.{AreInputs}
use Rattle.accessible_copy.proofs.Listed.{inputs_more, at_index}
use Rattle.exposure_search.proofs.listing.are_inputs.Goals as goal

pub returns-then-not-is_input : goal.returns-then-not-is_input
returns-then-not-is_input c = test_fails (λ are. denied _ c.is_input.ensures c.if-not-is_input.true (are _ (at_index c.args.inputs.now c.loop-number.number c.loop-number-test.true)))

pub loop-number-preserved : goal.loop-number-preserved
loop-number-preserved c = inputs_more (known_values c.args.proof.now.constants c.args.proof.now.end.exposed) c.args.vals.now c.args.inputs.now c.loop-number.number c.loop-number-test.true c.loop-number.invariant (told _ c.is_input.ensures c.if-not-is_input.false)

pub returns : goal.returns
returns c = test_holds (subst (λ z. AreInputs (known_values c.args.proof.now.constants c.args.proof.now.end.exposed) z c.args.vals.now) (take_all c.loop-number.number c.args.inputs.now c.loop-number-test.false) c.loop-number.invariant)
