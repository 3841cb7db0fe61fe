use Rattle.std.proofs.lemmas.List.Elements.{at_read}
use Rattle.meaning.specs.Access.{CanAccess}
use Rattle.access_schema.specs.Meaning.{meaning_of}
use Rattle.no_plan_witness.proofs.Turns.{each_more, each_all, true_says, false_says}
use Rattle.no_plan_witness.proofs.accessible.first_accessible.Goals as goal

pub returns-then-can_access-clause-some : goal.returns-then-can_access-clause-some
returns-then-can_access-clause-some c = at_read _ (CanAccess (meaning_of c.args.schema.now) c.args.constants.now c.args.earlier.now) _ _ c.loop-place-test.true c.index-waiting-place.is (true_says c.if-can_access.ensures)

pub loop-place-preserved : goal.loop-place-preserved
loop-place-preserved c = each_more (λ fact. CanAccess (meaning_of c.args.schema.now) c.args.constants.now c.args.earlier.now fact → ⊥) _ _ _ c.loop-place-test.true c.index-waiting-place.is c.loop-place.invariant (false_says c.if-can_access.ensures)

pub returns-clause-none : goal.returns-clause-none
returns-clause-none c = each_all (λ fact. CanAccess (meaning_of c.args.schema.now) c.args.constants.now c.args.earlier.now fact → ⊥) _ _ c.loop-place-test.false c.loop-place.invariant
