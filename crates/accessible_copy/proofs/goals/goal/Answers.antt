use Rattle.std.proofs.Common.{◌≡◌, Some, ap, ◌∙◌, subst}
use Rattle.std.specs.Prelude.{slice_get}
use Rattle.std.proofs.lemmas.List.{take_all}
use Rattle.lists.proofs.Places.{got_indexed}
use Rattle.meaning.specs.declared.types.Val.TheVariants.{Const}
use Rattle.meaning.specs.Matching.{IsQueryAnswer, GroundsOf}
use Rattle.accessible_copy.specs.Proving.{Proving}
use Rattle.accessible_copy.specs.Goals.{IsHeadMatch}
use Rattle.accessible_copy.proofs.HeadMatches.{NoGoal, none_first, none_more, none_all}
use Rattle.accessible_copy.proofs.goals.goal.Goals as goal

pub loop-number-init : goal.loop-number-init
loop-number-init c = none_first c.args.proof.now.end.copy c.args.head.now

pub returns-in-Some-clause-some : goal.returns-in-Some-clause-some
returns-in-Some-clause-some c =
    let facts : c.store.result.now ≡ c.args.proof.now.end.copy = c.store.ensures ∙ ap (λ (p : Proving). p.end.copy) c.proof.view_is in
    let got : slice_get c.args.queries.now c.loop-number.number ≡ Some c.index-as_slice-number.result = got_indexed c.args.queries.now c.loop-number.number c.index-as_slice-number.result (rw c.len-number-end.ensures at c.loop-number-test.true) (rw c.as_slice.ensures at c.index-as_slice-number.is) in
    let m : IsHeadMatch c.args.proof.now.end.copy c.index-as_slice-number.result c.args.head.now c.in-Some.assignment.vals = rw facts at (rw c.in-Some.is at c.in_ok-assignment.ensures.some) in
    (c.index-as_slice-number.result, got, m)

pub loop-number-preserved : goal.loop-number-preserved
loop-number-preserved c =
    let facts : c.store.result.now ≡ c.args.proof.now.end.copy = c.store.ensures ∙ ap (λ (p : Proving). p.end.copy) c.proof.view_is in
    let got : slice_get c.args.queries.now c.loop-number.number ≡ Some c.index-as_slice-number.result = got_indexed c.args.queries.now c.loop-number.number c.index-as_slice-number.result (rw c.len-number-end.ensures at c.loop-number-test.true) (rw c.as_slice.ensures at c.index-as_slice-number.is) in
    let none : IsQueryAnswer Const (GroundsOf c.args.proof.now.end.copy) c.index-as_slice-number.result c.args.head.now → ⊥ = rw facts at (rw c.in_default.is at c.in_ok-assignment.ensures.none) in
    none_more c.args.queries.now c.args.proof.now.end.copy c.args.head.now c.loop-number.number c.index-as_slice-number.result got c.loop-number.invariant none

pub returns-clause-none : goal.returns-clause-none
returns-clause-none c = none_all c.args.queries.now c.args.proof.now.end c.args.head.now
    (subst (λ z. NoGoal z c.args.proof.now.end.copy c.args.head.now) (take_all c.loop-number.number c.args.queries.now (rw c.len-number-end.ensures at c.loop-number-test.false)) c.loop-number.invariant)
