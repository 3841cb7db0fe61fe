use Rattle.std.proofs.Common.{◌≤◌, length, refl, subst, arith, false}
use Rattle.access_schema.specs.Meaning.{meaning_of}
use Rattle.accessible_copy.specs.Proving.{Proving}
use Rattle.accessible_copy.proofs.BaseStaysMet.{exposed_quiet}
use Rattle.accessible_copy.proofs.Begun.{settled_none}
use Rattle.accessible_copy.proofs.rounds.base_part.Goals as goal

pub returns-then-len-gt0-clause-more : goal.returns-then-len-gt0-clause-more
returns-then-len-gt0-clause-more c = settled_none (meaning_of c.args.schema.now) false c.args.proof.now

pub returns-then-len-gt0-clause-none : goal.returns-then-len-gt0-clause-none
returns-then-len-gt0-clause-none c = λ e.
    let long : 1 ≤ length c.args.proof.now.exposed = subst (λ (p : Proving). 1 ≤ length p.exposed) c.proof.view_is (let t = c.if-len-gt0.true in let n = c.len.ensures in omega arith) in
    (refl, exposed_quiet (meaning_of c.args.schema.now) c.args.proof.now c.requires.run long)
