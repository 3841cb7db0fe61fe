use Rattle.std.proofs.Common.{◌≡◌, ◌∙◌, ◌≤◌, [], Contains, map, sym, subst, arith, length}
use Rattle.meaning.specs.Triggers.{bound}
use Rattle.homomorphism.specs.Narrowing.{Gives}
use Rattle.homomorphism.specs.Matches.{NoMatch, AreCovered}
use Rattle.homomorphism.specs.Frontier.{StandForAll, IsStart}
use Rattle.homomorphism.specs.Walks.{AreGroups, AreParts, AreListed}
use Rattle.homomorphism.proofs.FrontierMatches.{frontier_absent}
use Rattle.homomorphism.proofs.Giving.{body_covered, body_fits}
use Rattle.homomorphism.proofs.Walking.{part_within, part_fits, part_covered, walk_absent, walk_stands}
use Rattle.homomorphism.proofs.walk.Walk.over.Goals as goal

pub returns-in_default : goal.returns-in_default
returns-in_default c =
    let g : Gives [] (bound c.args.rule.now.body) c.in_ok-fixed.fixed = rw c.new-none.ensures.items at (rw c.as_slice.ensures.value at (rw c.as_slice-body.ensures at (rw c.variables_width.ensures at c.in_ok-fixed.ensures))) in
    let none : NoMatch c.args.store.now c.args.rule.now.body c.in_ok-fixed.fixed = rw c.as_slice-body.ensures at (rw c.in_default.is at c.in_ok-first.ensures.none) in
    subst (StandForAll c.args.store.now c.args.rule.now) (sym c.ended.ensures)
    (frontier_absent c.args.store.now c.args.rule.now (λ a are. none a (g.complete a (λ x l. absurd (omega arith))) are))

pub listed-requires-clause-count : goal.listed-requires-clause-count
listed-requires-clause-count c =
    let p : AreParts c.args.rule.now.body c.in-Some.first c.in_ok-parts.parts.runs c.in_ok-parts.parts.owners c.in_ok-parts.parts.givens = rw c.as_slice-body.ensures at (rw c.as_slice-2.ensures at c.in_ok-parts.ensures) in
    rw c.as_slice-3.ensures (rw c.as_slice-4.ensures p.count)

pub listed-requires-clause-fits : goal.listed-requires-clause-fits
listed-requires-clause-fits c =
    let parts = c.in_ok-parts.parts in
    let body = c.args.rule.now.body in
    let g : Gives [] (bound c.args.rule.now.body) c.in_ok-fixed.fixed = rw c.new-none.ensures.items at (rw c.as_slice.ensures.value at (rw c.as_slice-body.ensures at (rw c.variables_width.ensures at c.in_ok-fixed.ensures))) in
    let s : IsStart c.args.store.now c.args.rule.now.body c.args.rule.now.head c.in_ok-fixed.fixed c.in-Some.first = rw c.as_slice-body.ensures at (rw c.as_slice-head.ensures at (rw c.in-Some.is at c.in_ok-first.ensures.some)) in
    let p : AreParts body c.in-Some.first parts.runs parts.owners parts.givens = rw c.as_slice-body.ensures at (rw c.as_slice-2.ensures at c.in_ok-parts.ensures) in
    let wide : bound body ≤ length c.in-Some.first = let e = s.width ∙ body_fits c.args.rule.now c.in_ok-fixed.fixed g in omega arith in
    rw c.as_slice-body.ensures (rw c.as_slice-3.ensures (rw c.as_slice-4.ensures (part_fits body c.in-Some.first parts.runs parts.owners parts.givens p wide)))

pub listed-requires-clause-within : goal.listed-requires-clause-within
listed-requires-clause-within c =
    let parts = c.in_ok-parts.parts in
    let body = c.args.rule.now.body in
    let p : AreParts body c.in-Some.first parts.runs parts.owners parts.givens = rw c.as_slice-body.ensures at (rw c.as_slice-2.ensures at c.in_ok-parts.ensures) in
    rw c.as_slice-body.ensures (rw c.as_slice-3.ensures (part_within body c.in-Some.first parts.runs parts.owners parts.givens p))

pub listed-requires-clause-covered : goal.listed-requires-clause-covered
listed-requires-clause-covered c =
    let parts = c.in_ok-parts.parts in
    let body = c.args.rule.now.body in
    let g : Gives [] (bound c.args.rule.now.body) c.in_ok-fixed.fixed = rw c.new-none.ensures.items at (rw c.as_slice.ensures.value at (rw c.as_slice-body.ensures at (rw c.variables_width.ensures at c.in_ok-fixed.ensures))) in
    let s : IsStart c.args.store.now c.args.rule.now.body c.args.rule.now.head c.in_ok-fixed.fixed c.in-Some.first = rw c.as_slice-body.ensures at (rw c.as_slice-head.ensures at (rw c.in-Some.is at c.in_ok-first.ensures.some)) in
    let p : AreParts body c.in-Some.first parts.runs parts.owners parts.givens = rw c.as_slice-body.ensures at (rw c.as_slice-2.ensures at c.in_ok-parts.ensures) in
    let covered : AreCovered body c.in-Some.first = body_covered c.args.rule.now c.in-Some.first c.requires (s.width ∙ body_fits c.args.rule.now c.in_ok-fixed.fixed g) in
    rw c.as_slice-body.ensures (rw c.as_slice-3.ensures (rw c.as_slice-4.ensures (part_covered body c.in-Some.first parts.runs parts.owners parts.givens p covered)))

pub groups-requires : goal.groups-requires
groups-requires c = rw c.as_slice-6.ensures.value at (c.are_positive.ensures.yes c.if-not-are_positive.false)

pub returns-then-not-are_positive : goal.returns-then-not-are_positive
returns-then-not-are_positive c =
    let parts = c.in_ok-parts.parts in
    let rule = c.args.rule.now in
    let store = c.args.store.now in
    let lists = c.in_ok-lists.lists.items in
    let g : Gives [] (bound rule.body) c.in_ok-fixed.fixed = rw c.new-none.ensures.items at (rw c.as_slice.ensures.value at (rw c.as_slice-body.ensures at (rw c.variables_width.ensures at c.in_ok-fixed.ensures))) in
    let s : IsStart store rule.body rule.head c.in_ok-fixed.fixed c.in-Some.first = rw c.as_slice-body.ensures at (rw c.as_slice-head.ensures at (rw c.in-Some.is at c.in_ok-first.ensures.some)) in
    let p : AreParts rule.body c.in-Some.first parts.runs parts.owners parts.givens = rw c.as_slice-body.ensures at (rw c.as_slice-2.ensures at c.in_ok-parts.ensures) in
    let count : length lists ≡ length parts.runs = rw c.as_slice-3.ensures at c.in_ok-lists.ensures.count in
    let are : AreListed store rule.body rule.head parts.runs parts.givens lists = rw c.as_slice-body.ensures at (rw c.as_slice-head.ensures at (rw c.as_slice-3.ensures at (rw c.as_slice-4.ensures at c.in_ok-lists.ensures.listed))) in
    let none : Contains (map length lists) 0 = rw c.as_slice-5.ensures.value at (rw c.in_ok-whole.ensures at (rw c.as_slice-6.ensures.value at (c.are_positive.ensures.no c.if-not-are_positive.true))) in
    subst (StandForAll store rule) (sym c.ended-then-not-are_positive.ensures)
    (walk_absent rule c.in_ok-fixed.fixed c.in-Some.first parts.runs parts.owners parts.givens store lists [] c.requires g s p count are none)

pub returns : goal.returns
returns c =
    let parts = c.in_ok-parts.parts in
    let rule = c.args.rule.now in
    let store = c.args.store.now in
    let lists = c.in_ok-lists.lists.items in
    let g : Gives [] (bound rule.body) c.in_ok-fixed.fixed = rw c.new-none.ensures.items at (rw c.as_slice.ensures.value at (rw c.as_slice-body.ensures at (rw c.variables_width.ensures at c.in_ok-fixed.ensures))) in
    let s : IsStart store rule.body rule.head c.in_ok-fixed.fixed c.in-Some.first = rw c.as_slice-body.ensures at (rw c.as_slice-head.ensures at (rw c.in-Some.is at c.in_ok-first.ensures.some)) in
    let p : AreParts rule.body c.in-Some.first parts.runs parts.owners parts.givens = rw c.as_slice-body.ensures at (rw c.as_slice-2.ensures at c.in_ok-parts.ensures) in
    let count : length lists ≡ length parts.runs = rw c.as_slice-3.ensures at c.in_ok-lists.ensures.count in
    let are : AreListed store rule.body rule.head parts.runs parts.givens lists = rw c.as_slice-body.ensures at (rw c.as_slice-head.ensures at (rw c.as_slice-3.ensures at (rw c.as_slice-4.ensures at c.in_ok-lists.ensures.listed))) in
    let groups : AreGroups rule parts.owners (map length lists) c.in_ok-groups.groups.items = rw c.as_slice-5.ensures.value at (rw c.in_ok-whole.ensures at (rw c.as_slice-7.ensures at c.in_ok-groups.ensures)) in
    subst (StandForAll store rule) (sym c.in_ok-begin.ensures)
    (walk_stands rule c.in_ok-fixed.fixed c.in-Some.first parts.runs parts.owners parts.givens store lists c.in_ok-groups.groups.items c.requires g s p count are groups)
