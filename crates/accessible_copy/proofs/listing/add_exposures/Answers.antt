use Rattle.std.proofs.Common.{◌≡◌, ◌+◌, ◌++◌, ◌∷◌, [], length, take, sym, subst, arith}
use Rattle.std.specs.Prelude.{Contains, slice_index}
use Rattle.std.proofs.lemmas.List.{take_more}
use Rattle.access_schema.specs.Meaning.{meaning_of}
use Rattle.homomorphism.proofs.Covering.{told, denied}
use Rattle.accessible_copy.specs.Proving.{Proving}
use Rattle.accessible_copy.proofs.Listed.{at_index, at_got, not_before, adds_none, adds_exposed, adds_more, adds_less}
use Rattle.accessible_copy.proofs.listing.add_exposures.Goals.{then-can_expose+in_ok-copy+in_ok-push, else-can_expose, then-is_empty-via-then-is_empty, then-is_empty-via-else-is_empty+then-has}
use Rattle.accessible_copy.proofs.listing.add_exposures.Goals as goal

pub returns-then-is_empty : goal.returns-then-is_empty
returns-then-is_empty c = elim c.then-is_empty.branch [
  | then-is_empty-via-then-is_empty w ↦
      let none : length c.args.numbers.now ≡ 0 = grind (arith, c.is_empty.ensures, w.if-is_empty.true) in
      adds_none (meaning_of c.args.schema.now) c.args.proof.now c.args.fact.now c.args.numbers.now c.args.found.now.items none
  | then-is_empty-via-else-is_empty+then-has w ↦
      adds_exposed (meaning_of c.args.schema.now) c.args.proof.now c.args.fact.now c.args.numbers.now c.args.found.now.items
      (subst (λ (p : Proving). Contains p.end.exposed c.args.fact.now) c.proof.view_is (told _ w.has.ensures w.if-has.true))
]

pub can_expose-requires-clause-named : goal.can_expose-requires-clause-named
can_expose-requires-clause-named c = c.requires.named (slice_index c.args.numbers.now c.loop-number.number-index) (at_index c.args.numbers.now c.loop-number.number-index c.loop-number-test.true)

pub can_expose-requires-clause-new : goal.can_expose-requires-clause-new
can_expose-requires-clause-new c = λ h. denied _ c.has.ensures c.if-has.false (subst (λ (p : Proving). Contains p.end.exposed c.args.fact.now) (sym c.proof.view_is) h)

pub loop-number-preserved : goal.loop-number-preserved
loop-number-preserved c =
    let turn : take (c.loop-number.number-index + 1) c.args.numbers.now ≡ take c.loop-number.number-index c.args.numbers.now ++ slice_index c.args.numbers.now c.loop-number.number-index ∷ [] = take_more c.args.numbers.now c.loop-number.number-index 0 c.loop-number-test.true in
    elim c.if-can_expose.branch [
      | then-can_expose+in_ok-copy+in_ok-push w ↦
          rw (w.found-is, turn, w.in_ok-push.ensures.items, w.in_ok-copy.ensures)
          (adds_more (meaning_of c.args.schema.now) c.args.proof.now c.args.fact.now (take c.loop-number.number-index c.args.numbers.now) (slice_index c.args.numbers.now c.loop-number.number-index) c.args.found.now.items c.loop-number.found.items c.loop-number.invariant
          (not_before c.args.numbers.now c.loop-number.number-index (slice_index c.args.numbers.now c.loop-number.number-index) c.requires.once (at_got c.args.numbers.now c.loop-number.number-index c.loop-number-test.true))
          (told _ c.can_expose.ensures w.if-can_expose.true))
      | else-can_expose w ↦
          rw (w.found-is, turn)
          (adds_less (meaning_of c.args.schema.now) c.args.proof.now c.args.fact.now (take c.loop-number.number-index c.args.numbers.now) (slice_index c.args.numbers.now c.loop-number.number-index) c.args.found.now.items c.loop-number.found.items c.loop-number.invariant
          (λ can. denied _ c.can_expose.ensures w.if-can_expose.false can))
    ]
