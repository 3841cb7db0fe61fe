use Rattle.std.proofs.Common.{◌≡◌, None, slice_get, subst}
use Rattle.meaning.specs.declared.types.Val.TheVariants.{Label}
use Rattle.homomorphism.specs.declared.assignment.Assignment.{Assignment}
use Rattle.homomorphism.specs.Bindings.{at}
use Rattle.homomorphism.specs.Walks.{picked_of}
use Rattle.homomorphism.proofs.Walking.{at_none}
use Rattle.homomorphism.proofs.walk.value_in.Goals as goal

pub returns-in-None : goal.returns-in-None
returns-in-None c =
    let found : c.in-Some.one.now ≡ picked_of c.args.lists.now c.args.numbers.now c.args.part = let k = c.in-Some.ensures.some in let v = c.in-Some.is in cc in
    let none : slice_get c.in-Some.one.now.vals c.args.variable ≡ None = let k = c.in-None.ensures in let v = c.in-None.is in cc in
    subst (λ (m : Assignment). Label 0 ≡ at m.vals c.args.variable) found (at_none c.in-Some.one.now.vals c.args.variable none)
