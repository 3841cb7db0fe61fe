-- The relations that some rule names, on the first lane.
use Rattle.std.proofs.Common.{inl, ℕ, List, [], refl, sym, subst}
use Rattle.std.specs.Prelude.{Contains}
use Rattle.source_trait.proofs.LaneSteps.{LanesStay-refl}
use Rattle.middleware.specs.Needs.{needed}
use Rattle.middleware.specs.Needs.AttachesNeeded.{no_memory}
use Rattle.middleware.specs.declared.fault.RunFault.TheVariants as fault
use Rattle.rule_rows.specs.RuleRelations.{AreRuleRelations, needed_first}
use Rattle.rule_rows.specs.Verifying.Verifies.{not_attached}
use Rattle.rule_rows.proofs.Missing.{named_there, listed_first, verifies_alike, verifies_behind}
use Rattle.rule_rows.proofs.verifying.verify_rows.Goals as goal

pub attach_and_test-requires-clause-there : goal.attach_and_test-requires-clause-there
attach_and_test-requires-clause-there g c κs within = λ rel among.
    named_there c.args.schema.now rel ((c.in-Ok.ensures.exactly rel).0 (subst (λ (l : List ℕ). Contains l rel) c.as_slice.ensures.value among))

pub attach_and_test-requires-clause-rules : goal.attach_and_test-requires-clause-rules
attach_and_test-requires-clause-rules g c κs within = λ rel named.
    subst (λ (l : List ℕ). Contains l rel) (sym c.as_slice.ensures.value) ((c.in-Ok.ensures.exactly rel).1 named)

pub returns-in-Ok-clause-verifies : goal.returns-in-Ok-clause-verifies
returns-in-Ok-clause-verifies g c =
    verifies_alike c.args.schema.now g.S.Source.seen (needed c.as_slice.result.now []) (needed_first c.args.schema.now)
    (listed_first c.args.schema.now c.as_slice.result.now (subst (AreRuleRelations c.args.schema.now) (sym c.as_slice.ensures.value) c.in-Ok.ensures))
    c.args.lanes.now c.attach_and_test.new.lanes c.attach_and_test.result c.attach_and_test.ensures.verifies

pub returns-in-Ok-clause-others : goal.returns-in-Ok-clause-others
returns-in-Ok-clause-others g c =
    verifies_behind c.args.schema.now g.S.Source.seen c.args.lanes.now c.attach_and_test.new.lanes c.attach_and_test.result
    (verifies_alike c.args.schema.now g.S.Source.seen (needed c.as_slice.result.now []) (needed_first c.args.schema.now)
    (listed_first c.args.schema.now c.as_slice.result.now (subst (AreRuleRelations c.args.schema.now) (sym c.as_slice.ensures.value) c.in-Ok.ensures))
    c.args.lanes.now c.attach_and_test.new.lanes c.attach_and_test.result c.attach_and_test.ensures.verifies)

pub returns-in-Err-clause-verifies : goal.returns-in-Err-clause-verifies
returns-in-Err-clause-verifies g c = not_attached fault.NoMemory (no_memory (inl refl))

pub returns-in-Err-clause-lanes : goal.returns-in-Err-clause-lanes
returns-in-Err-clause-lanes g c = LanesStay-refl g.S.Source.seen c.args.lanes.now
