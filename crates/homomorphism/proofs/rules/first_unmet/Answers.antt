use Rattle.std.proofs.Common.{◌≡◌, ◌∷◌, [], length, subst, sym, arith, ◌<◌}
use Rattle.homomorphism.specs.Rules.{IsMet, IsUnmet}
use Rattle.homomorphism.proofs.FrontierMatches.{IsWalked, walked_start, walked_among, walked_more, walked_all, unmet_frontier}
use Rattle.homomorphism.proofs.rules.first_unmet.Goals as goal

pub loop-walk-init : goal.loop-walk-init
loop-walk-init c = walked_start c.args.store.now c.args.rule.now c.in_ok-walk.walk c.in_ok-walk.ensures

pub is_met-requires-clause-width : goal.is_met-requires-clause-width
is_met-requires-clause-width c =
    let is : c.loop-walk.walk ≡ c.in-Some.one ∷ c.next.new.self = rw c.in-Some.is at c.in_ok-one.ensures.some in
    let w : IsWalked c.args.store.now c.args.rule.now c.loop-walk.walk = c.loop-walk.invariant in
    w.matches.width c.in-Some.one (walked_among c.args.store.now c.args.rule.now c.loop-walk.walk c.next.new.self c.in-Some.one w is)

pub returns-then-not-branch-clause-some : goal.returns-then-not-branch-clause-some
returns-then-not-branch-clause-some c =
    let is : c.loop-walk.walk ≡ c.in-Some.one ∷ c.next.new.self = rw c.in-Some.is at c.in_ok-one.ensures.some in
    let w : IsWalked c.args.store.now c.args.rule.now c.loop-walk.walk = c.loop-walk.invariant in
    let u : IsUnmet c.args.store.now c.args.rule.now c.in-Some.one.vals = c.in_ok-is_met.ensures.unmet c.if-not-branch.true in
    unmet_frontier c.args.store.now c.args.rule.now w.found c.in-Some.one w.matches (walked_among c.args.store.now c.args.rule.now c.loop-walk.walk c.next.new.self c.in-Some.one w is) u

pub loop-walk-preserved : goal.loop-walk-preserved
loop-walk-preserved c =
    let is : c.loop-walk.walk ≡ c.in-Some.one ∷ c.next.new.self = rw c.in-Some.is at c.in_ok-one.ensures.some in
    let m : IsMet c.args.store.now c.args.rule.now c.in-Some.one.vals = c.in_ok-is_met.ensures.met c.if-not-branch.false in
    walked_more c.args.store.now c.args.rule.now c.loop-walk.walk c.next.new.self c.in-Some.one is m c.loop-walk.invariant

pub loop-walk-smaller : goal.loop-walk-smaller
loop-walk-smaller c =
    let is : c.loop-walk.walk ≡ c.in-Some.one ∷ c.next.new.self = rw c.in-Some.is at c.in_ok-one.ensures.some in
    subst (λ z. length c.next.new.self < length z) (sym is) (omega arith)

pub returns-clause-none : goal.returns-clause-none
returns-clause-none c =
    let none : c.loop-walk.walk ≡ [] = rw c.in_default.is at c.in_ok-one.ensures.none in
    walked_all c.args.store.now c.args.rule.now c.loop-walk.walk none c.loop-walk.invariant
