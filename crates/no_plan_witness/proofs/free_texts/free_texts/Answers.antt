-- A number whose text is a constant is passed over, and any other one gives the next text. No number is higher than there are texts
-- and constants.
use Rattle.std.proofs.Common.{◌≤◌, ◌+◌, ◌∙◌, ◌++◌, ◌∷◌, [], ap, sym, subst, length, arith}
use Rattle.std.specs.Prelude.{Contains}
use Rattle.no_plan_witness.proofs.Counting.{taken_passed, free_taken, first_free, few_passed}
use Rattle.no_plan_witness.proofs.free_texts.free_texts.Goals as goal

pub loop-alloc-preserved-in-Continue-branch-5 : goal.loop-alloc-preserved-in-Continue-branch-5
loop-alloc-preserved-in-Continue-branch-5 c = record {
  small = c.in_ok-number.ensures.few;
  free = free_taken c.args.sort c.args.known.now c.loop-alloc.number c.in_ok-number.number c.loop-alloc.texts.items c.push.new.self.items c.loop-alloc.invariant.free c.in_ok-number.ensures.next
      (λ among. let yes = c.has.ensures.1 (subst (Contains c.in_ok-constants.constants) (sym c.in_ok-text.ensures) ((c.in_ok-constants.ensures _).1 among)) in let no = c.if-not-has.true in absurd (cc))
      (c.in_ok-push.ensures.items ∙ ap (λ text. c.loop-alloc.texts.items ++ text ∷ []) c.in_ok-text.ensures);
  few = omega arith;
}

pub loop-alloc-preserved : goal.loop-alloc-preserved
loop-alloc-preserved c = record {
  small = c.in_ok-number.ensures.few;
  free = taken_passed c.args.sort c.args.known.now c.loop-alloc.number c.in_ok-number.number c.loop-alloc.texts.items c.loop-alloc.invariant.free c.in_ok-number.ensures.next
      (subst (Contains c.args.known.now) c.in_ok-text.ensures ((c.in_ok-constants.ensures c.in_ok-text.text).0 (c.has.ensures.0 c.if-not-has.false)));
  few = c.loop-alloc.invariant.few;
}

pub loop-alloc-smaller : goal.loop-alloc-smaller
loop-alloc-smaller c =
    let few : c.loop-alloc.number ≤ length c.loop-alloc.texts.items + length c.constants.inside.sorted.items =
    few_passed c.args.sort c.args.known.now c.in_ok-constants.constants c.constants.inside.sorted.items c.loop-alloc.texts.items c.loop-alloc.number c.constants.view_is c.in_ok-constants.ensures c.loop-alloc.invariant.free (omega arith) in
    let texts = c.loop-alloc.texts.ok in
    let sorted = c.constants.inside.sorted.ok in
    omega arith

pub loop-alloc-smaller-in-Continue-branch-5 : goal.loop-alloc-smaller-in-Continue-branch-5
loop-alloc-smaller-in-Continue-branch-5 c =
    let few : c.loop-alloc.number ≤ length c.loop-alloc.texts.items + length c.constants.inside.sorted.items =
    few_passed c.args.sort c.args.known.now c.in_ok-constants.constants c.constants.inside.sorted.items c.loop-alloc.texts.items c.loop-alloc.number c.constants.view_is c.in_ok-constants.ensures c.loop-alloc.invariant.free (omega arith) in
    let texts = c.loop-alloc.texts.ok in
    let sorted = c.constants.inside.sorted.ok in
    omega arith

pub returns-clause-free : goal.returns-clause-free
returns-clause-free c = first_free c.args.sort c.args.known.now c.loop-alloc.number c.loop-alloc.texts.items c.loop-alloc.invariant.free c.loop-alloc.invariant.small
