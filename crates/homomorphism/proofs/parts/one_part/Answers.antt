use Rattle.std.proofs.Common.{◌≡◌, ◌∙◌, ◌∷◌, ◌++◌, [], ap, length, replicate}
use Rattle.homomorphism.specs.Walks.{AreShut}
use Rattle.homomorphism.proofs.Walking.{one_part_is}
use Rattle.homomorphism.proofs.parts.one_part.Goals as goal

pub returns : goal.returns
returns c =
    let runs : c.push.new.self ≡ c.in_ok-numbers.field-0 ∷ [] = c.in_ok-push.ensures.ok ∙ ap (λ z. z ++ c.in_ok-numbers.field-0 ∷ []) c.new-runs.ensures in
    let givens : c.push-2.new.self ≡ c.in_ok-shut_to.field-0 ∷ [] = c.in_ok-push-2.ensures.ok ∙ ap (λ z. z ++ c.in_ok-shut_to.field-0 ∷ []) c.new-givens.ensures in
    let zeros : c.in_ok-owners.owners.items ≡ replicate (length c.args.start.now) 0 = c.in_ok-owners.ensures.items_if_clones_equal (λ y e. e) in
    let shut : AreShut c.args.start.now c.in_ok-owners.owners.items 0 c.in_ok-shut_to.field-0 = rw c.as_slice.ensures.value at c.in_ok-shut_to.ensures.shut in
    rw runs (rw givens (rw c.from_vec.ensures (one_part_is c.args.atoms.now c.args.start.now c.in_ok-owners.owners.items c.in_ok-numbers.field-0 c.in_ok-shut_to.field-0 zeros c.in_ok-numbers.ensures c.in_ok-shut_to.ensures.width shut)))
