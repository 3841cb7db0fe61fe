use Rattle.std.proofs.Common.{◌≡◌, length-append, ◌∙◌, sym, subst, ap, length, take, List, ◌++◌, ◌∷◌, [], arith}
use Rattle.std.specs.Prelude.{slice_get}
use Rattle.std.specs.Vec.Iter.{into_iter_items}
use Rattle.std.proofs.lemmas.List.{nil_from_length, take_all}
use Rattle.lists.proofs.Members.{contains_got}
use Rattle.lists.proofs.Places.{got_indexed, take_indexed}
use Rattle.meaning.specs.declared.types.Plan.{Plan}
use Rattle.plan_batches.specs.Rounding.{TurnsNoted}
use Rattle.plan_batches.specs.declared.member.Member.{Member}
use Rattle.plan_batches.specs.declared.member.Going.{Going}
use Rattle.plan_batches.proofs.Noting.{noted_more}
use Rattle.plan_batches.proofs.Pairing.{at_seam, parts_end, parts_on, under_seam}
use Rattle.plan_batches.proofs.round.turns.Goals as goal

pub bounds-plans-number : goal.bounds-plans-number
bounds-plans-number c =
    let under = under_seam c.loop-member.yielded (into_iter_items c.loop-member.member-iterator) c.args.members.items c.loop-member.invariant.parts
    c.in-Some.member (into_iter_items c.next.new.self) c.in-Some.ensures.steps.0 in
    let number = c.loop-member.invariant.number in
    let long = c.requires.at.1.long in
    omega (arith, under, number, long)

pub go_on-requires-clause-is_book : goal.go_on-requires-clause-is_book
go_on-requires-clause-is_book c = c.loop-member.invariant.noted.is_book

pub go_on-requires-clause-at : goal.go_on-requires-clause-at
go_on-requires-clause-at c =
    let at = at_seam c.loop-member.yielded (into_iter_items c.loop-member.member-iterator) c.args.members.items c.loop-member.invariant.parts
    c.in-Some.member (into_iter_items c.next.new.self) c.in-Some.ensures.steps.0 in
    let under = under_seam c.loop-member.yielded (into_iter_items c.loop-member.member-iterator) c.args.members.items c.loop-member.invariant.parts
    c.in-Some.member (into_iter_items c.next.new.self) c.in-Some.ensures.steps.0 in
    let number = c.loop-member.invariant.number in
    let long = c.requires.at.1.long in
    let plan_at = got_indexed c.args.plans.now c.loop-member.number c.index-plans-number.result (omega (arith, under, number, long)) c.index-plans-number.is in
    (c.requires.at.0, c.requires.at.1.at c.loop-member.number c.index-plans-number.result c.in-Some.member plan_at (ap (slice_get c.args.members.items) number ∙ at))

pub go_on-requires-clause-ready : goal.go_on-requires-clause-ready
go_on-requires-clause-ready c =
    let under = under_seam c.loop-member.yielded (into_iter_items c.loop-member.member-iterator) c.args.members.items c.loop-member.invariant.parts
    c.in-Some.member (into_iter_items c.next.new.self) c.in-Some.ensures.steps.0 in
    let number = c.loop-member.invariant.number in
    let long = c.requires.at.1.long in
    let plan_at = got_indexed c.args.plans.now c.loop-member.number c.index-plans-number.result (omega (arith, under, number, long)) c.index-plans-number.is in
    (c.requires.ready c.index-plans-number.result (contains_got c.args.plans.now c.loop-member.number c.index-plans-number.result plan_at)).0

pub go_on-requires-clause-lines : goal.go_on-requires-clause-lines
go_on-requires-clause-lines c = λ rel a.
    let under = under_seam c.loop-member.yielded (into_iter_items c.loop-member.member-iterator) c.args.members.items c.loop-member.invariant.parts
    c.in-Some.member (into_iter_items c.next.new.self) c.in-Some.ensures.steps.0 in
    let number = c.loop-member.invariant.number in
    let long = c.requires.at.1.long in
    let plan_at = got_indexed c.args.plans.now c.loop-member.number c.index-plans-number.result (omega (arith, under, number, long)) c.index-plans-number.is in
    c.requires.lines rel (c.index-plans-number.result, contains_got c.args.plans.now c.loop-member.number c.index-plans-number.result plan_at, a)

pub loop-member-preserved : goal.loop-member-preserved
loop-member-preserved c =
    let under = under_seam c.loop-member.yielded (into_iter_items c.loop-member.member-iterator) c.args.members.items c.loop-member.invariant.parts
    c.in-Some.member (into_iter_items c.next.new.self) c.in-Some.ensures.steps.0 in
    let number = c.loop-member.invariant.number in
    let long = c.requires.at.1.long in
    let longer = take_indexed c.args.plans.now c.loop-member.number c.index-plans-number.result (omega (arith, under, number, long)) c.index-plans-number.is in
    record {
      parts = parts_on c.loop-member.yielded (into_iter_items c.loop-member.member-iterator) c.args.members.items c.loop-member.invariant.parts
          c.in-Some.member (into_iter_items c.next.new.self) c.in-Some.ensures.steps.0;
      number = let more = length-append c.loop-member.yielded (c.in-Some.member ∷ []) in omega (arith, number, more);
      noted = subst (λ (l : List Plan). TurnsNoted c.args.schema.now l (c.loop-member.yielded ++ c.in-Some.member ∷ []) c.args.book.now c.go_on.new.book c.push.new.self.items) (sym longer)
          (subst (λ (l : List Going). TurnsNoted c.args.schema.now (take c.loop-member.number c.args.plans.now ++ c.index-plans-number.result ∷ []) (c.loop-member.yielded ++ c.in-Some.member ∷ []) c.args.book.now c.go_on.new.book l) (sym c.in_ok-push.ensures.items)
          (noted_more c.args.schema.now (take c.loop-member.number c.args.plans.now) c.loop-member.yielded c.args.book.now c.loop-member.book c.go_on.new.book c.loop-member.goings.items
          c.index-plans-number.result c.in-Some.member c.in_ok-go_on.field-0 c.loop-member.invariant.noted c.in_ok-go_on.ensures.wants c.in_ok-go_on.ensures.noted));
    }

pub returns : goal.returns
returns c =
    let long = c.loop-member.member-iterator.rest.ok.0 in
    let left = c.in-None.ensures.steps.0 in
    let none : into_iter_items c.loop-member.member-iterator ≡ [] = nil_from_length (into_iter_items c.loop-member.member-iterator) (omega (arith, long, left)) in
    let all = parts_end c.loop-member.yielded (into_iter_items c.loop-member.member-iterator) c.args.members.items c.loop-member.invariant.parts none in
    let number = c.loop-member.invariant.number in
    let same = ap length all in
    let long = c.requires.at.1.long in
    let whole = take_all c.loop-member.number c.args.plans.now (omega (arith, number, same, long)) in
    subst (λ (l : List Plan). TurnsNoted c.args.schema.now l c.args.members.items c.args.book.now c.loop-member.book c.loop-member.goings.items) whole
    (subst (λ (l : List Member). TurnsNoted c.args.schema.now (take c.loop-member.number c.args.plans.now) l c.args.book.now c.loop-member.book c.loop-member.goings.items) all c.loop-member.invariant.noted)
