use Rattle.std.proofs.Common.{◌≡◌, Contains}
use Rattle.lists.proofs.Booleans.{test_holds, test_fails}
use Rattle.meaning.specs.declared.types.Method.{Method}
use Rattle.no_plan_witness.specs.Gathering.{KnowsInputs}
use Rattle.homomorphism.proofs.AtomByAtom.{is_among}
use Rattle.no_plan_witness.proofs.Turns.{each_more, each_all, true_says, false_says}
use Rattle.no_plan_witness.proofs.accessible.can_access.Goals.{else-method-fact-via-then-method-fact+else-knows_inputs, else-method-fact-via-else-method-fact}
use Rattle.no_plan_witness.proofs.accessible.can_access.Goals as goal

pub returns-then-knows_inputs : goal.returns-then-knows_inputs
returns-then-knows_inputs c =
    let among : Contains c.args.schema.now.methods c.method-item.result = rw c.as_slice-method-items.ensures at (is_among c.as_slice-method-items.result.now _ _ c.loop-method-test.true c.method-item.is) in
    test_holds (record {
      method = c.method-item.result;
      of_schema = among;
      of_relation = c.if-method-fact.true;
      inputs = true_says (rw c.as_slice.ensures at c.if-knows_inputs.ensures);
    })

pub loop-method-preserved : goal.loop-method-preserved
loop-method-preserved c = each_more (λ (method : Method). (method.rel ≡ c.args.fact.now.rel) × KnowsInputs c.args.constants.now c.args.earlier.now c.args.fact.now.row method.inputs → ⊥) _ _ _ c.loop-method-test.true c.method-item.is c.loop-method.invariant
    (λ (rel, inputs). elim c.else-method-fact.branch [
      | else-method-fact-via-then-method-fact+else-knows_inputs w ↦ false_says (rw w.as_slice.ensures at w.if-knows_inputs.ensures) inputs
      | else-method-fact-via-else-method-fact w ↦ w.if-method-fact.false rel
    ])

pub returns : goal.returns
returns c = test_fails (λ can. each_all (λ (method : Method). (method.rel ≡ c.args.fact.now.rel) × KnowsInputs c.args.constants.now c.args.earlier.now c.args.fact.now.row method.inputs → ⊥) _ _ c.loop-method-test.false c.loop-method.invariant can.method (rw c.as_slice-method-items.ensures can.of_schema) (can.of_relation, can.inputs))
