use Rattle.std.proofs.Common.{◌≡◌, ◌∷◌, Contains, length, sym, subst}
use Rattle.lists.proofs.Members.{contains_here, contains_there}
use Rattle.meaning.specs.Triggers.{bound}
use Rattle.rule_growth.proofs.matching.is_wanting.Goals as goal

pub loop-walk-init : goal.loop-walk-init
loop-walk-init c = c.in_ok-walk.ensures.width

pub is_met-requires-clause-width : goal.is_met-requires-clause-width
is_met-requires-clause-width c =
    let is : c.loop-walk.walk ≡ c.in-Some.one ∷ c.next.new.self = rw c.in-Some.is at c.in_ok-one.ensures.some in
    let width : length c.in-Some.one.vals ≡ bound c.args.rule.now.body = c.loop-walk.invariant c.in-Some.one (subst (λ z. Contains z c.in-Some.one) (sym is) (contains_here c.in-Some.one c.next.new.self)) in
    rw c.as_slice-then-counts.ensures width

pub loop-walk-preserved : goal.loop-walk-preserved
loop-walk-preserved c =
    let is : c.loop-walk.walk ≡ c.in-Some.one ∷ c.next.new.self = rw c.in-Some.is at c.in_ok-one.ensures.some in
    λ m among. c.loop-walk.invariant m (subst (λ z. Contains z m) (sym is) (contains_there c.in-Some.one c.next.new.self m among))
