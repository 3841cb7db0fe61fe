use Rattle.std.proofs.Common.{sym, ap, ◌∙◌, subst, inl, false}
use Rattle.std.specs.Prelude.{Ok, OnOk}
use Rattle.meaning.specs.Runs.{base_state, IsBaseQuiet}
use Rattle.access_schema.specs.Meaning.{meaning_of}
use Rattle.rule_pass.specs.States.{SomeActive}
use Rattle.accessible_copy.specs.Proving.{Proving}
use Rattle.accessible_copy.specs.Rounds.{IsOneRound, IsRound, IsAllQuiet, GoesOn, IsDone}
use Rattle.accessible_copy.proofs.Pushing.{goes_base}
use Rattle.accessible_copy.proofs.Rounding.{settled_round, base_done}
use Rattle.accessible_copy.proofs.rounds.round.Goals as goal

pub returns-in_err-ended-clause-one : goal.returns-in_err-ended-clause-one
returns-in_err-ended-clause-one c = settled_round (meaning_of c.args.schema.now) false c.args.proof.now c.base_part.new.proof c.base_part.ensures.more

pub returns-in-Some-clause-one : goal.returns-in-Some-clause-one
returns-in-Some-clause-one c = settled_round (meaning_of c.args.schema.now) false c.args.proof.now c.base_part.new.proof c.base_part.ensures.more

pub returns-in-Some-clause-part : goal.returns-in-Some-clause-part
returns-in-Some-clause-part c =
    let some : SomeActive c.args.schema.now.rules (base_state c.args.proof.now.end) = rw c.in-Some.is at c.in_ok-ended.ensures.some in
    inl (some, c.base_part.ensures.more)

pub returns-in-Some-clause-going : goal.returns-in-Some-clause-going
returns-in-Some-clause-going c = λ e.
    let some : SomeActive c.args.schema.now.rules (base_state c.args.proof.now.end) = rw c.in-Some.is at c.in_ok-ended.ensures.some in
    goes_base (meaning_of c.args.schema.now) c.args.proof.now c.requires.run c.requires.ordered some

pub returns-in-Some-clause-done : goal.returns-in-Some-clause-done
returns-in-Some-clause-done c = λ e.
    let some : SomeActive c.args.schema.now.rules (base_state c.args.proof.now.end) = rw c.in-Some.is at c.in_ok-ended.ensures.some in
    base_done (meaning_of c.args.schema.now) c.args.proof.now c.base_part.new.proof some (c.in_ok-ended.ensures.done (cc))

pub later_part-requires-clause-base : goal.later_part-requires-clause-base
later_part-requires-clause-base c =
    let (same, quiet) = c.in_ok-ended.ensures.none (ap (λ o. Ok o) c.in_default.is) in
    subst (λ (p : Proving). IsBaseQuiet (meaning_of c.args.schema.now) p.end) (sym same) quiet

pub returns-clause-one : goal.returns-clause-one
returns-clause-one c =
    let (same, quiet) = c.in_ok-ended.ensures.none (ap (λ o. Ok o) c.in_default.is) in
    subst (λ (p : Proving). IsOneRound p c.later_part.new.proof) same c.later_part.ensures.one

pub returns-clause-part : goal.returns-clause-part
returns-clause-part c =
    let (same, quiet) = c.in_ok-ended.ensures.none (ap (λ o. Ok o) c.in_default.is) in
    subst (λ (p : Proving). OnOk c.later_part.result (IsRound (meaning_of c.args.schema.now) p c.later_part.new.proof)) same c.later_part.ensures.part

pub returns-clause-quiet : goal.returns-clause-quiet
returns-clause-quiet c = λ e.
    let (same, quiet) = c.in_ok-ended.ensures.none (ap (λ o. Ok o) c.in_default.is) in
    subst (λ (p : Proving). IsAllQuiet (meaning_of c.args.schema.now) p) same (c.later_part.ensures.quiet e)

pub returns-clause-same : goal.returns-clause-same
returns-clause-same c = λ e.
    let (same, quiet) = c.in_ok-ended.ensures.none (ap (λ o. Ok o) c.in_default.is) in
    c.later_part.ensures.same e ∙ same

pub returns-clause-going : goal.returns-clause-going
returns-clause-going c = λ e.
    let (same, quiet) = c.in_ok-ended.ensures.none (ap (λ o. Ok o) c.in_default.is) in
    subst (λ (p : Proving). GoesOn (meaning_of c.args.schema.now) p) same (c.later_part.ensures.going e)

pub returns-clause-done : goal.returns-clause-done
returns-clause-done c = λ e.
    let (same, quiet) = c.in_ok-ended.ensures.none (ap (λ o. Ok o) c.in_default.is) in
    subst (λ (p : Proving). IsDone (meaning_of c.args.schema.now) p c.later_part.new.proof) same (c.later_part.ensures.done e)
