use Rattle.std.proofs.Common.{◌≡◌, ◌∷◌, [], ◌<◌, ◌≤◌, Some, Contains, slice_get, slice_index_or, refl, subst, arith}
use Rattle.lists.proofs.Members.{contains_none}
use Rattle.homomorphism.specs.Rules.{IsMet, IsUnmet}
use Rattle.homomorphism.specs.Frontier.{StandForAll}
use Rattle.homomorphism.proofs.AtomByAtom.{is_among}
use Rattle.homomorphism.proofs.FrontierMatches.{frontier_met}
use Rattle.rule_pass.proofs.Ordered.{order_below}
use Rattle.rule_pass.proofs.OnePass.{Passing, IsPassing, rule_at, passing_begin, passing_among, passing_next, passing_end, passing_met, passing_first, passing_room, passing_fired, passing_all, met_more}
use Rattle.rule_pass.proofs.pass.run_rule.Goals as goal

pub bounds-as_slice-number : goal.bounds-as_slice-number
bounds-as_slice-number g c = rw c.as_slice.ensures (order_below c.args.rules.now c.args.order.now c.args.place c.requires.ordered c.requires.place)

pub over-requires : goal.over-requires
over-requires g c = c.requires.orderly.numbered c.index-as_slice-number.result (is_among c.args.rules.now (slice_index_or c.args.order.now c.args.place 0) c.index-as_slice-number.result (order_below c.args.rules.now c.args.order.now c.args.place c.requires.ordered c.requires.place) (rw c.as_slice.ensures at c.index-as_slice-number.is))

pub returns-then-is_over-clause-ended : goal.returns-then-is_over-clause-ended
returns-then-is_over-clause-ended g c = λ e.
    let numbered : slice_get c.args.rules.now (slice_index_or c.args.order.now c.args.place 0) ≡ Some c.index-as_slice-number.result = rule_at c.args.rules.now c.args.order.now c.args.place c.index-as_slice-number.result c.requires.ordered c.requires.place (rw c.as_slice.ensures at c.index-as_slice-number.is) in
    let found : StandForAll c.args.state.now.facts c.index-as_slice-number.result c.in_ok-walk.walk = rw c.store.ensures at c.in_ok-walk.ensures in
    let none : c.in_ok-walk.walk ≡ [] = c.is_over.ensures.over c.if-is_over.true in
    met_more c.args.rules.now c.args.order.now c.args.state.now.facts c.args.place c.index-as_slice-number.result c.requires.place numbered c.requires.met
    (frontier_met c.args.state.now.facts c.index-as_slice-number.result c.in_ok-walk.walk found (λ one among. absurd (contains_none one (subst (λ z. Contains z one) none among))))

pub loop-head-init : goal.loop-head-init
loop-head-init g c =
    let found : StandForAll c.args.state.now.facts c.index-as_slice-number.result c.in_ok-walk.walk = rw c.store.ensures at c.in_ok-walk.ensures in
    passing_begin g.L.Log.logged g.L.Log.size c.args.rules.now c.args.order.now c.args.state.now c.args.log.now c.args.place c.args.budget c.index-as_slice-number.result c.in_ok-walk.walk c.requires.met found

pub is_met-requires-clause-numbered : goal.is_met-requires-clause-numbered
is_met-requires-clause-numbered g c = c.requires.orderly.numbered c.index-as_slice-number.result (is_among c.args.rules.now (slice_index_or c.args.order.now c.args.place 0) c.index-as_slice-number.result (order_below c.args.rules.now c.args.order.now c.args.place c.requires.ordered c.requires.place) (rw c.as_slice.ensures at c.index-as_slice-number.is))

pub is_met-requires-clause-width : goal.is_met-requires-clause-width
is_met-requires-clause-width g c =
    let is : c.loop-head.walk ≡ c.in-Some.one ∷ c.next.new.self = rw c.in-Some.is at c.in_ok-one.ensures.some in
    let w : IsPassing g.L.Log.logged g.L.Log.size c.args.rules.now c.args.order.now c.args.state.now c.args.log.now c.args.place c.args.budget c.index-as_slice-number.result c.loop-head.walk c.loop-head.log c.loop-head.state = c.loop-head.invariant in
    w.passing.width c.in-Some.one (passing_among g.L.Log.logged g.L.Log.size c.args.rules.now c.args.order.now c.args.state.now c.args.log.now c.args.place c.args.budget c.index-as_slice-number.result c.loop-head.walk c.loop-head.log c.loop-head.state w c.in-Some.one c.next.new.self is)

pub returns-then-firings-budget-clause-spent : goal.returns-then-firings-budget-clause-spent
returns-then-firings-budget-clause-spent g c = λ e.
    let numbered : slice_get c.args.rules.now (slice_index_or c.args.order.now c.args.place 0) ≡ Some c.index-as_slice-number.result = rule_at c.args.rules.now c.args.order.now c.args.place c.index-as_slice-number.result c.requires.ordered c.requires.place (rw c.as_slice.ensures at c.index-as_slice-number.is) in
    let is : c.loop-head.walk ≡ c.in-Some.one ∷ c.next.new.self = rw c.in-Some.is at c.in_ok-one.ensures.some in
    let w : IsPassing g.L.Log.logged g.L.Log.size c.args.rules.now c.args.order.now c.args.state.now c.args.log.now c.args.place c.args.budget c.index-as_slice-number.result c.loop-head.walk c.loop-head.log c.loop-head.state = c.loop-head.invariant in
    let among : Contains w.found c.in-Some.one = passing_among g.L.Log.logged g.L.Log.size c.args.rules.now c.args.order.now c.args.state.now c.args.log.now c.args.place c.args.budget c.index-as_slice-number.result c.loop-head.walk c.loop-head.log c.loop-head.state w c.in-Some.one c.next.new.self is in
    let unmet : IsUnmet c.loop-head.state.facts c.index-as_slice-number.result c.in-Some.one.vals = rw c.store-in-Some.ensures at (c.in_ok-is_met.ensures.unmet c.if-not-branch.true) in
    let least : c.args.budget ≤ g.L.Log.size c.loop-head.log = rw c.firings.ensures at c.if-firings-budget.true in
    (least, (_, (c.index-as_slice-number.result, passing_first g.L.Log.logged g.L.Log.size g.met.L.Log.grows c.args.rules.now c.args.order.now c.args.state.now c.args.log.now c.args.place c.args.budget c.index-as_slice-number.result w.found w.done c.loop-head.log c.loop-head.state c.in-Some.one c.loop-head.state.next c.requires.orderly c.requires.ordered c.requires.place numbered w.passing among refl unmet)))

pub fire-requires-clause-active : goal.fire-requires-clause-active
fire-requires-clause-active g c =
    let numbered : slice_get c.args.rules.now (slice_index_or c.args.order.now c.args.place 0) ≡ Some c.index-as_slice-number.result = rule_at c.args.rules.now c.args.order.now c.args.place c.index-as_slice-number.result c.requires.ordered c.requires.place (rw c.as_slice.ensures at c.index-as_slice-number.is) in
    let is : c.loop-head.walk ≡ c.in-Some.one ∷ c.next.new.self = rw c.in-Some.is at c.in_ok-one.ensures.some in
    let w : IsPassing g.L.Log.logged g.L.Log.size c.args.rules.now c.args.order.now c.args.state.now c.args.log.now c.args.place c.args.budget c.index-as_slice-number.result c.loop-head.walk c.loop-head.log c.loop-head.state = c.loop-head.invariant in
    let among : Contains w.found c.in-Some.one = passing_among g.L.Log.logged g.L.Log.size c.args.rules.now c.args.order.now c.args.state.now c.args.log.now c.args.place c.args.budget c.index-as_slice-number.result c.loop-head.walk c.loop-head.log c.loop-head.state w c.in-Some.one c.next.new.self is in
    let unmet : IsUnmet c.loop-head.state.facts c.index-as_slice-number.result c.in-Some.one.vals = rw c.store-in-Some.ensures at (c.in_ok-is_met.ensures.unmet c.if-not-branch.true) in
    let first = passing_first g.L.Log.logged g.L.Log.size g.met.L.Log.grows c.args.rules.now c.args.order.now c.args.state.now c.args.log.now c.args.place c.args.budget c.index-as_slice-number.result w.found w.done c.loop-head.log c.loop-head.state c.in-Some.one c.next-fresh.result c.requires.orderly c.requires.ordered c.requires.place numbered w.passing among c.next-fresh.ensures.next unmet in
    (c.index-as_slice-number.result, first.active)

pub fire-requires-clause-labels : goal.fire-requires-clause-labels
fire-requires-clause-labels g c other got =
    let numbered : slice_get c.args.rules.now (slice_index_or c.args.order.now c.args.place 0) ≡ Some c.index-as_slice-number.result = rule_at c.args.rules.now c.args.order.now c.args.place c.index-as_slice-number.result c.requires.ordered c.requires.place (rw c.as_slice.ensures at c.index-as_slice-number.is) in
    let is : c.loop-head.walk ≡ c.in-Some.one ∷ c.next.new.self = rw c.in-Some.is at c.in_ok-one.ensures.some in
    let w : IsPassing g.L.Log.logged g.L.Log.size c.args.rules.now c.args.order.now c.args.state.now c.args.log.now c.args.place c.args.budget c.index-as_slice-number.result c.loop-head.walk c.loop-head.log c.loop-head.state = c.loop-head.invariant in
    let among : Contains w.found c.in-Some.one = passing_among g.L.Log.logged g.L.Log.size c.args.rules.now c.args.order.now c.args.state.now c.args.log.now c.args.place c.args.budget c.index-as_slice-number.result c.loop-head.walk c.loop-head.log c.loop-head.state w c.in-Some.one c.next.new.self is in
    let unmet : IsUnmet c.loop-head.state.facts c.index-as_slice-number.result c.in-Some.one.vals = rw c.store-in-Some.ensures at (c.in_ok-is_met.ensures.unmet c.if-not-branch.true) in
    let spare : g.L.Log.size c.loop-head.log < c.args.budget = let m = c.if-firings-budget.false in let n = c.firings.ensures in omega arith in
    passing_room g.L.Log.logged g.L.Log.size g.met.L.Log.grows c.args.rules.now c.args.order.now c.args.state.now c.args.log.now c.args.place c.args.budget c.index-as_slice-number.result w.found w.done c.loop-head.log c.loop-head.state c.in-Some.one c.next-fresh.result c.requires.orderly c.requires.ordered c.requires.place numbered w.passing among c.next-fresh.ensures.next unmet other got spare c.requires.budget c.requires.labels

pub loop-head-preserved-in_ok-fire : goal.loop-head-preserved-in_ok-fire
loop-head-preserved-in_ok-fire g c =
    let numbered : slice_get c.args.rules.now (slice_index_or c.args.order.now c.args.place 0) ≡ Some c.index-as_slice-number.result = rule_at c.args.rules.now c.args.order.now c.args.place c.index-as_slice-number.result c.requires.ordered c.requires.place (rw c.as_slice.ensures at c.index-as_slice-number.is) in
    let is : c.loop-head.walk ≡ c.in-Some.one ∷ c.next.new.self = rw c.in-Some.is at c.in_ok-one.ensures.some in
    let w : IsPassing g.L.Log.logged g.L.Log.size c.args.rules.now c.args.order.now c.args.state.now c.args.log.now c.args.place c.args.budget c.index-as_slice-number.result c.loop-head.walk c.loop-head.log c.loop-head.state = c.loop-head.invariant in
    let among : Contains w.found c.in-Some.one = passing_among g.L.Log.logged g.L.Log.size c.args.rules.now c.args.order.now c.args.state.now c.args.log.now c.args.place c.args.budget c.index-as_slice-number.result c.loop-head.walk c.loop-head.log c.loop-head.state w c.in-Some.one c.next.new.self is in
    let unmet : IsUnmet c.loop-head.state.facts c.index-as_slice-number.result c.in-Some.one.vals = rw c.store-in-Some.ensures at (c.in_ok-is_met.ensures.unmet c.if-not-branch.true) in
    let spare : g.L.Log.size c.loop-head.log < c.args.budget = let m = c.if-firings-budget.false in let n = c.firings.ensures in omega arith in
    rw c.in_ok-fire.ensures.logged
    (passing_next g.L.Log.logged g.L.Log.size c.args.rules.now c.args.order.now c.args.state.now c.args.log.now c.args.place c.args.budget c.index-as_slice-number.result c.loop-head.walk c.loop-head.log c.loop-head.state w c.in-Some.one c.next.new.self _ c.fire.new.state is
    (passing_fired g.L.Log.logged g.L.Log.size g.met.L.Log.grows c.args.rules.now c.args.order.now c.args.state.now c.args.log.now c.args.place c.args.budget c.index-as_slice-number.result w.found w.done c.loop-head.log c.loop-head.state c.in-Some.one c.next-fresh.result c.requires.orderly c.requires.ordered c.requires.place numbered w.passing among c.next-fresh.ensures.next unmet c.fire.new.state spare (c.in_ok-fire.ensures.fired c.index-as_slice-number.result numbered)))

pub loop-head-preserved : goal.loop-head-preserved
loop-head-preserved g c =
    let is : c.loop-head.walk ≡ c.in-Some.one ∷ c.next.new.self = rw c.in-Some.is at c.in_ok-one.ensures.some in
    let w : IsPassing g.L.Log.logged g.L.Log.size c.args.rules.now c.args.order.now c.args.state.now c.args.log.now c.args.place c.args.budget c.index-as_slice-number.result c.loop-head.walk c.loop-head.log c.loop-head.state = c.loop-head.invariant in
    let met : IsMet c.loop-head.state.facts c.index-as_slice-number.result c.in-Some.one.vals = rw c.store-in-Some.ensures at (c.in_ok-is_met.ensures.met c.if-not-branch.false) in
    passing_next g.L.Log.logged g.L.Log.size c.args.rules.now c.args.order.now c.args.state.now c.args.log.now c.args.place c.args.budget c.index-as_slice-number.result c.loop-head.walk c.loop-head.log c.loop-head.state w c.in-Some.one c.next.new.self c.loop-head.log c.loop-head.state is
    (passing_met g.L.Log.logged g.L.Log.size c.args.rules.now c.args.order.now c.args.state.now c.args.log.now c.args.place c.args.budget c.index-as_slice-number.result w.found w.done c.in-Some.one c.loop-head.log c.loop-head.state w.passing met)

pub returns-clause-ended : goal.returns-clause-ended
returns-clause-ended g c = λ e.
    let numbered : slice_get c.args.rules.now (slice_index_or c.args.order.now c.args.place 0) ≡ Some c.index-as_slice-number.result = rule_at c.args.rules.now c.args.order.now c.args.place c.index-as_slice-number.result c.requires.ordered c.requires.place (rw c.as_slice.ensures at c.index-as_slice-number.is) in
    let w : IsPassing g.L.Log.logged g.L.Log.size c.args.rules.now c.args.order.now c.args.state.now c.args.log.now c.args.place c.args.budget c.index-as_slice-number.result c.loop-head.walk c.loop-head.log c.loop-head.state = c.loop-head.invariant in
    let none : c.loop-head.walk ≡ [] = rw c.in_default.is at c.in_ok-one.ensures.none in
    let p : Passing g.L.Log.logged g.L.Log.size c.args.rules.now c.args.order.now c.args.state.now c.args.log.now c.args.place c.args.budget c.index-as_slice-number.result w.found w.found c.loop-head.log c.loop-head.state = passing_end g.L.Log.logged g.L.Log.size c.args.rules.now c.args.order.now c.args.state.now c.args.log.now c.args.place c.args.budget c.index-as_slice-number.result c.loop-head.walk c.loop-head.log c.loop-head.state w none in
    met_more c.args.rules.now c.args.order.now c.loop-head.state.facts c.args.place c.index-as_slice-number.result c.requires.place numbered p.before
    (passing_all g.L.Log.logged g.L.Log.size c.args.rules.now c.args.order.now c.args.state.now c.args.log.now c.args.place c.args.budget c.index-as_slice-number.result w.found c.loop-head.log c.loop-head.state p)
