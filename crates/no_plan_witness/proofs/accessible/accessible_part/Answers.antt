use Rattle.std.specs.List.{HoldsAt}
use Rattle.std.proofs.Common.{◌<◌, length, Contains}
use Rattle.meaning.specs.Access.{CanAccess}
use Rattle.meaning.specs.declared.types.Fact.{Fact}
use Rattle.access_schema.specs.Meaning.{meaning_of}
use Rattle.no_plan_witness.proofs.Turns.{true_says, false_says}
use Rattle.no_plan_witness.proofs.Gathers.{gathered_skip, gathered_more, gathered_all}
use Rattle.no_plan_witness.proofs.accessible.accessible_part.Goals as goal

pub loop-place-preserved-in_ok-insert : goal.loop-place-preserved-in_ok-insert
loop-place-preserved-in_ok-insert c =
    let can : HoldsAt (CanAccess (meaning_of c.args.schema.now) c.args.constants.now c.loop-place.part.items) c.loop-place.waiting.items c.in-Some.place = rw (c.as_slice.ensures.value, c.as_slice-in-loop-place.ensures.value) at c.in-Some.ensures.some in
    let within : c.in-Some.place < length c.loop-place.waiting.items = rw c.as_slice-in-loop-place.ensures.value at c.in-Some.ensures.place in
    rw (c.remove-fact.ensures.items, c.in_ok-insert.ensures.items) (gathered_more _ _ _ _ _ c.loop-place.invariant _ _ within c.remove-fact.ensures.value can (false_says (rw c.as_slice-in-Some.ensures.value at c.if-not-has.ensures)))

pub loop-place-preserved : goal.loop-place-preserved
loop-place-preserved c =
    let within : c.in-Some.place < length c.loop-place.waiting.items = rw c.as_slice-in-loop-place.ensures.value at c.in-Some.ensures.place in
    rw c.remove-fact.ensures.items (gathered_skip _ _ _ _ _ c.loop-place.invariant _ _ within c.remove-fact.ensures.value (true_says (rw c.as_slice-in-Some.ensures.value at c.if-not-has.ensures)))

pub returns-clause-exactly : goal.returns-clause-exactly
returns-clause-exactly c =
    let none : (fact : Fact) → Contains c.loop-place.waiting.items fact → CanAccess (meaning_of c.args.schema.now) c.args.constants.now c.loop-place.part.items fact → ⊥ = rw (c.as_slice.ensures.value, c.as_slice-in-loop-place.ensures.value) at c.in_default.ensures.none in
    rw c.from_vec.ensures (gathered_all _ _ _ _ _ (c.accessible_closed.ensures (meaning_of c.args.schema.now) c.args.constants.now c.args.facts.now c.loop-place.part.items) c.loop-place.invariant none)
