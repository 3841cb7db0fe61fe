-- The plain fault is the least; without one a rule part is recursive exactly where the links lead round.
use Rattle.std.proofs.Common.{sym, ◌∙◌}
use Rattle.access_schema.proofs.LeastFault.{many_constants, known_from_none, plain_is_least, round_is_least, faultless, stands_on, linked_on, straight_before, sort_is_least}
use Rattle.access_schema.proofs.first_fault.check_part.Goals as goal

pub plain_fault-requires : goal.plain_fault-requires
plain_fault-requires c = many_constants c.args.relations.now c.args.earlier.now c.args.part.now c.args.known.now.items c.args.links.now.items c.requires.stands c.in_ok-fits.fits c.in_ok-fits.ensures.fits

pub add_link-requires : goal.add_link-requires
add_link-requires c = record {
  few = c.requires.few;
  known = known_from_none c.args.relations.now c.args.earlier.now c.args.part.now (sym c.in_ok-fault.ensures ∙ c.in_default.is);
  below = c.requires.stands.below;
  straight = c.requires.stands.straight;
}

pub returns-in-Some-clause-fault : goal.returns-in-Some-clause-fault
returns-in-Some-clause-fault c = plain_is_least c.args.relations.now c.args.earlier.now c.args.part.now c.in-Some.fault (sym c.in_ok-fault.ensures ∙ c.in-Some.is)

pub returns-then-branch-clause-fault : goal.returns-then-branch-clause-fault
returns-then-branch-clause-fault c = round_is_least c.args.relations.now c.args.earlier.now c.args.part.now c.add_link.new.links.items (sym c.in_ok-fault.ensures ∙ c.in_default.is)
    (linked_on c.args.relations.now c.args.earlier.now c.args.part.now c.args.known.now.items c.args.links.now.items c.requires.stands c.add_link.new.links.items c.in_ok-add_link.ensures.links)
    (straight_before c.args.relations.now c.args.earlier.now c.args.part.now c.args.known.now.items c.args.links.now.items c.requires.stands)
    (c.in_ok-add_link.ensures.round.0 c.if-branch.true)

pub returns-then-branch-2-clause-fault : goal.returns-then-branch-2-clause-fault
returns-then-branch-2-clause-fault c = sort_is_least c.args.relations.now c.args.earlier.now c.args.part.now c.add_link.new.links.items (sym c.in_ok-fault.ensures ∙ c.in_default.is)
    (linked_on c.args.relations.now c.args.earlier.now c.args.part.now c.args.known.now.items c.args.links.now.items c.requires.stands c.add_link.new.links.items c.in_ok-add_link.ensures.links)
    (λ round. let t = c.in_ok-add_link.ensures.round.1 round in let f = c.if-branch.false in cc)
    (c.in_ok-has_wrong_sort.ensures.0 c.if-branch-2.true)

pub returns-clause-none : goal.returns-clause-none
returns-clause-none c = faultless c.args.relations.now c.args.earlier.now c.args.part.now c.add_link.new.links.items (sym c.in_ok-fault.ensures ∙ c.in_default.is)
    (linked_on c.args.relations.now c.args.earlier.now c.args.part.now c.args.known.now.items c.args.links.now.items c.requires.stands c.add_link.new.links.items c.in_ok-add_link.ensures.links)
    (λ round. let t = c.in_ok-add_link.ensures.round.1 round in let f = c.if-branch.false in cc)
    (λ wrong. let t = c.in_ok-has_wrong_sort.ensures.1 wrong in let f = c.if-branch-2.false in cc)

pub returns-clause-stands : goal.returns-clause-stands
returns-clause-stands c = stands_on c.args.relations.now c.args.earlier.now c.args.part.now c.args.known.now.items c.args.links.now.items c.requires.stands
    c.in_ok-fits.fits c.add_constants.new.known.items c.add_link.new.links.items (sym c.in_ok-fault.ensures ∙ c.in_default.is)
    c.in_ok-fits.ensures.fits c.in_ok-fits.ensures.texts c.in_ok-add_link.ensures.links c.in_ok-add_link.ensures.below
    (λ round. let t = c.in_ok-add_link.ensures.round.1 round in let f = c.if-branch.false in cc)
