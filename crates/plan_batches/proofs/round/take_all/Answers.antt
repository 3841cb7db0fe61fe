use Rattle.std.proofs.Common.{◌≡◌, length-append, ◌∙◌, sym, subst, ap, length, take, List, ◌++◌, ◌∷◌, [], arith}
use Rattle.std.specs.Prelude.{slice_get}
use Rattle.std.specs.Vec.Iter.{into_iter_items}
use Rattle.std.proofs.lemmas.Grind.{common_steps}
use Rattle.std.proofs.lemmas.List.{take_all}
use Rattle.lists.proofs.Members.{contains_got}
use Rattle.lists.proofs.Places.{got_indexed, take_indexed}
use Rattle.meaning.specs.declared.types.Plan.{Plan}
use Rattle.plan_batches.specs.Each.{Each}
use Rattle.plan_batches.specs.Members.{Takes}
use Rattle.plan_batches.specs.declared.member.Member.{Member}
use Rattle.plan_batches.specs.declared.member.Going.{Going}
use Rattle.plan_batches.proofs.Pairing.{at_seam, each_push, parts_on, under_seam}
use Rattle.plan_batches.proofs.round.take_all.Goals as goal

pub bounds-plans-number : goal.bounds-plans-number
bounds-plans-number c =
    let under = under_seam c.loop-going.yielded (into_iter_items c.loop-going.going-iterator) c.args.goings.items c.loop-going.invariant.parts
    c.in-Some.going (into_iter_items c.next.new.self) c.in-Some.ensures.steps.0 in
    let number = c.loop-going.invariant.number in
    let long = c.requires.goings.long in
    omega (arith, under, number, long)

pub take_up-requires-clause-asked : goal.take_up-requires-clause-asked
take_up-requires-clause-asked c =
    let at = at_seam c.loop-going.yielded (into_iter_items c.loop-going.going-iterator) c.args.goings.items c.loop-going.invariant.parts
    c.in-Some.going (into_iter_items c.next.new.self) c.in-Some.ensures.steps.0 in
    let under = under_seam c.loop-going.yielded (into_iter_items c.loop-going.going-iterator) c.args.goings.items c.loop-going.invariant.parts
    c.in-Some.going (into_iter_items c.next.new.self) c.in-Some.ensures.steps.0 in
    let number = c.loop-going.invariant.number in
    let long = c.requires.goings.long in
    let plan_at = got_indexed c.args.plans.now c.loop-going.number c.index-plans-number.result (omega (arith, under, number, long)) c.index-plans-number.is in
    c.requires.goings.at c.loop-going.number c.index-plans-number.result c.in-Some.going plan_at (ap (slice_get c.args.goings.items) number ∙ at)

pub take_up-requires-clause-outputs : goal.take_up-requires-clause-outputs
take_up-requires-clause-outputs c =
    let under = under_seam c.loop-going.yielded (into_iter_items c.loop-going.going-iterator) c.args.goings.items c.loop-going.invariant.parts
    c.in-Some.going (into_iter_items c.next.new.self) c.in-Some.ensures.steps.0 in
    let number = c.loop-going.invariant.number in
    let long = c.requires.goings.long in
    let plan_at = got_indexed c.args.plans.now c.loop-going.number c.index-plans-number.result (omega (arith, under, number, long)) c.index-plans-number.is in
    c.requires.outputs c.index-plans-number.result (contains_got c.args.plans.now c.loop-going.number c.index-plans-number.result plan_at)

pub take_up-requires-clause-numbers : goal.take_up-requires-clause-numbers
take_up-requires-clause-numbers c = λ number h.
    c.requires.numbers c.in-Some.going number
    (contains_got c.args.goings.items (length c.loop-going.yielded) c.in-Some.going
    (at_seam c.loop-going.yielded (into_iter_items c.loop-going.going-iterator) c.args.goings.items c.loop-going.invariant.parts
    c.in-Some.going (into_iter_items c.next.new.self) c.in-Some.ensures.steps.0)) h

pub loop-going-preserved : goal.loop-going-preserved
loop-going-preserved c =
    let under = under_seam c.loop-going.yielded (into_iter_items c.loop-going.going-iterator) c.args.goings.items c.loop-going.invariant.parts
    c.in-Some.going (into_iter_items c.next.new.self) c.in-Some.ensures.steps.0 in
    let number = c.loop-going.invariant.number in
    let long = c.requires.goings.long in
    let longer = take_indexed c.args.plans.now c.loop-going.number c.index-plans-number.result (omega (arith, under, number, long)) c.index-plans-number.is in
    record {
      parts = parts_on c.loop-going.yielded (into_iter_items c.loop-going.going-iterator) c.args.goings.items c.loop-going.invariant.parts
          c.in-Some.going (into_iter_items c.next.new.self) c.in-Some.ensures.steps.0;
      number = let more = length-append c.loop-going.yielded (c.in-Some.going ∷ []) in omega (arith, number, more);
      takes = subst (λ (l : List Plan). Each (Takes c.args.kept.now) l (c.loop-going.yielded ++ c.in-Some.going ∷ []) c.push.new.self.items) (sym longer)
          (subst (λ (l : List Member). Each (Takes c.args.kept.now) (take c.loop-going.number c.args.plans.now ++ c.index-plans-number.result ∷ []) (c.loop-going.yielded ++ c.in-Some.going ∷ []) l) (sym c.in_ok-push.ensures.items)
          (each_push (Takes c.args.kept.now) (take c.loop-going.number c.args.plans.now) c.loop-going.yielded c.loop-going.members.items
          c.index-plans-number.result c.in-Some.going c.in_ok-take_up.field-0 c.loop-going.invariant.takes c.in_ok-take_up.ensures));
    }

pub returns : goal.returns
returns c =
    let all : c.loop-going.yielded ≡ c.args.goings.items = grind (arith, common_steps, c.in-None.ensures) in
    let number = c.loop-going.invariant.number in
    let same = ap length all in
    let long = c.requires.goings.long in
    let whole = take_all c.loop-going.number c.args.plans.now (omega (arith, number, same, long)) in
    subst (λ (l : List Plan). Each (Takes c.args.kept.now) l c.args.goings.items c.loop-going.members.items) whole
    (subst (λ (l : List Going). Each (Takes c.args.kept.now) (take c.loop-going.number c.args.plans.now) l c.loop-going.members.items) all c.loop-going.invariant.takes)
