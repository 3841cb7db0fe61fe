use Rattle.std.proofs.Common.{◌≤◌, length, subst, arith}
use Rattle.meaning.specs.Runs.{base_state, IsBaseQuiet}
use Rattle.access_schema.specs.Meaning.{meaning_of}
use Rattle.rule_pass.specs.States.{SomeActive}
use Rattle.rule_pass.proofs.Bounds.{orderly}
use Rattle.accessible_copy.specs.Proving.{Proving}
use Rattle.accessible_copy.proofs.BaseStaysMet.{exposed_quiet}
use Rattle.accessible_copy.proofs.going.base_goes_on.Goals as goal

pub active-requires : goal.active-requires
active-requires c = orderly c.args.schema.now

pub returns-then-len-gt0-clause-quiet : goal.returns-then-len-gt0-clause-quiet
returns-then-len-gt0-clause-quiet c = λ e.
    let long : 1 ≤ length c.args.proof.now.exposed = subst (λ (p : Proving). 1 ≤ length p.exposed) c.proof.view_is (let t = c.if-len-gt0.true in let n = c.len.ensures in omega arith) in
    exposed_quiet (meaning_of c.args.schema.now) c.args.proof.now c.requires long

pub returns-in-Some-clause-some : goal.returns-in-Some-clause-some
returns-in-Some-clause-some c = λ e.
    subst (λ (p : Proving). SomeActive c.args.schema.now.rules (base_state p.end)) c.proof.view_is (c.in-Some.field-0, rw c.in-Some.is at c.in_ok-active.ensures.some)

pub returns-clause-quiet : goal.returns-clause-quiet
returns-clause-quiet c = λ e. subst (λ (p : Proving). IsBaseQuiet (meaning_of c.args.schema.now) p.end) c.proof.view_is (rw c.in_default.is at c.in_ok-active.ensures.quiet)
