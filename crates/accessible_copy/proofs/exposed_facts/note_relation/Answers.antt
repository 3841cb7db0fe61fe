use Rattle.std.proofs.Common.{◌≡◌, inl, inr, length, rules}
use Rattle.std.specs.Prelude.{slice_index, slice_set}
use Rattle.std.proofs.lemmas.List.{get_or-set_same}
use Rattle.homomorphism.proofs.Covering.{told, denied}
use Rattle.accessible_copy.specs.Places.{IsOfRelation, AreFirstOfRelations}
use Rattle.accessible_copy.proofs.Relations.{firsts_as, firsts_noted, firsts_push}
use Rattle.accessible_copy.proofs.exposed_facts.note_relation.Goals as goal

pub returns-then-is_of_relation-clause-next : goal.returns-then-is_of_relation-clause-next
returns-then-is_of_relation-clause-next c = λ are fact same.
    let is : c.place_at-first.result ≡ slice_index c.args.firsts.now.items c.args.rel = search rules in
    let there : IsOfRelation c.args.facts.now (slice_index c.args.firsts.now.items c.args.rel) c.args.rel = rw is at (told _ c.is_of_relation.ensures c.if-is_of_relation.true) in
    firsts_push c.args.facts.now fact c.args.firsts.now.items are (inl (rw same there))

pub returns-in_err-grow-clause-kept : goal.returns-in_err-grow-clause-kept
returns-in_err-grow-clause-kept c = λ are. firsts_as c.args.facts.now c.args.firsts.now.items c.grow.new.places.items are (λ n fact got. c.in_err-grow.ensures.stays fact.rel)

pub returns-clause-kept : goal.returns-clause-kept
returns-clause-kept c = λ are.
    let is : c.place_at-first.result ≡ slice_index c.args.firsts.now.items c.args.rel = search rules in
    firsts_noted c.args.facts.now c.args.firsts.now.items c.grow.new.places.items c.args.rel (length c.args.facts.now) are c.in_ok-grow.ensures.stays
    (λ there. denied _ c.is_of_relation.ensures c.if-is_of_relation.false (rw is there))

pub returns-clause-next : goal.returns-clause-next
returns-clause-next c = λ are fact same.
    let facts = c.args.facts.now in
    let grown = c.grow.new.places.items in
    let is : c.place_at-first.result ≡ slice_index c.args.firsts.now.items c.args.rel = search rules in
    let noted : AreFirstOfRelations facts (slice_set grown c.args.rel (length facts))
    = firsts_noted facts c.args.firsts.now.items grown c.args.rel (length facts) are c.in_ok-grow.ensures.stays (λ there. denied _ c.is_of_relation.ensures c.if-is_of_relation.false (rw is there)) in
    firsts_push facts fact (slice_set grown c.args.rel (length facts)) noted (inr (rw same (get_or-set_same grown c.args.rel (length facts) 0 c.in_ok-grow.ensures.long)))
