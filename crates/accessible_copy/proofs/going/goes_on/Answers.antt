use Rattle.std.proofs.Common.{◌<◌, length, subst, arith}
use Rattle.meaning.specs.Triggers.{IsQuiet}
use Rattle.meaning.specs.Runs.{base_state, copy_state, IsBaseQuiet, IsCopyQuiet, NoExposure}
use Rattle.access_schema.specs.Meaning.{meaning_of}
use Rattle.rule_pass.specs.States.{SomeActive}
use Rattle.rule_pass.proofs.Bounds.{orderly}
use Rattle.accessible_copy.specs.Proving.{Proving}
use Rattle.accessible_copy.proofs.Pushing.{goes_base, goes_copy, goes_listed, none_listed}
use Rattle.accessible_copy.proofs.going.goes_on.Goals as goal

pub active-requires : goal.active-requires
active-requires c = orderly c.args.schema.now

pub returns-then-branch-clause-going : goal.returns-then-branch-clause-going
returns-then-branch-clause-going c = λ e.
    let some : SomeActive c.args.schema.now.rules (base_state c.args.proof.now.end) = c.in_ok-base_goes_on.ensures.some c.if-branch.true in
    goes_base (meaning_of c.args.schema.now) c.args.proof.now c.requires.run c.requires.ordered some

pub returns-then-len-gt0-clause-going : goal.returns-then-len-gt0-clause-going
returns-then-len-gt0-clause-going c = λ e.
    let quiet : IsBaseQuiet (meaning_of c.args.schema.now) c.args.proof.now.end = c.in_ok-base_goes_on.ensures.quiet c.if-branch.false in
    let long : 0 < length c.in_ok-open.open = let t = c.if-len-gt0.true in let n = c.len.ensures in omega arith in
    goes_listed (meaning_of c.args.schema.now) c.args.proof.now c.requires.run c.requires.ordered c.in_ok-open.open quiet c.in_ok-open.ensures long

pub returns-in-Some-clause-going : goal.returns-in-Some-clause-going
returns-in-Some-clause-going c = λ e.
    let quiet : IsBaseQuiet (meaning_of c.args.schema.now) c.args.proof.now.end = c.in_ok-base_goes_on.ensures.quiet c.if-branch.false in
    let none : NoExposure (meaning_of c.args.schema.now) c.args.proof.now.constants c.args.proof.now.end = none_listed (meaning_of c.args.schema.now) c.args.proof.now c.in_ok-open.open c.in_ok-open.ensures (λ long. let t = c.if-len-gt0.false in let n = c.len.ensures in omega arith) in
    let some : SomeActive c.args.schema.now.rules (copy_state c.args.proof.now.end) = subst (λ (p : Proving). SomeActive c.args.schema.now.rules (copy_state p.end)) c.proof.view_is
    (subst (λ n. SomeActive c.args.schema.now.rules (record { facts = c.proof.inside.copy.facts; next = n })) c.proof.invariant.0 (c.in-Some.field-0, rw c.in-Some.is at c.in_ok-active.ensures.some)) in
    goes_copy (meaning_of c.args.schema.now) c.args.proof.now c.requires.run c.requires.ordered quiet none some

pub returns-clause-quiet : goal.returns-clause-quiet
returns-clause-quiet c = λ e. record {
  base = c.in_ok-base_goes_on.ensures.quiet c.if-branch.false;
  exposures = none_listed (meaning_of c.args.schema.now) c.args.proof.now c.in_ok-open.open c.in_ok-open.ensures (λ long. let t = c.if-len-gt0.false in let n = c.len.ensures in omega arith);
  copy = subst (λ (p : Proving). IsCopyQuiet (meaning_of c.args.schema.now) p.end) c.proof.view_is
      (subst (λ n. IsQuiet c.args.schema.now.rules (record { facts = c.proof.inside.copy.facts; next = n })) c.proof.invariant.0 (rw c.in_default.is at c.in_ok-active.ensures.quiet));
}
