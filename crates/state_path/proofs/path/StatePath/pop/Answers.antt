use Rattle.std.proofs.Common.{◌≡◌, ◌-◌, length, take, subst}
use Rattle.state_path.specs.Paths.{added_along}
use Rattle.state_path.proofs.Paths.{popped}
use Rattle.state_path.proofs.path.StatePath.pop.Goals as goal

pub invariant_of-self : goal.invariant_of-self
invariant_of-self g c = (popped c.self.inside.states c.try_remove.new.self c.self.inside.keys.items c.pop.new.self.items c.in-Some.key c.in-Some.ensures.items c.self.invariant c.try_remove.ensures.updates).0

pub returns-in-Some : goal.returns-in-Some
returns-in-Some g c =
    subst (λ all. added_along c.try_remove.new.self c.pop.new.self.items ≡ take (length all - 1) all) c.self.view_is
    (popped c.self.inside.states c.try_remove.new.self c.self.inside.keys.items c.pop.new.self.items c.in-Some.key c.in-Some.ensures.items c.self.invariant c.try_remove.ensures.updates).1
