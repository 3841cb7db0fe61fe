-- The relations of the rules and of the plan, each on the lanes that need it.
use Rattle.std.proofs.Common.{◌≡◌, ◌⊎◌, inl, inr, ℕ, List, refl, sym, ◌∙◌, subst}
use Rattle.std.specs.Prelude.{◌↔◌, Contains}
use Rattle.meaning.specs.declared.types.Plan.{Plan}
use Rattle.access_schema.specs.declared.schema.Schema.{Schema}
use Rattle.source_trait.proofs.LaneSteps.{LanesStay-refl}
use Rattle.middleware.specs.PlanSources.{IsAccessed}
use Rattle.middleware.specs.Needs.{needed}
use Rattle.middleware.specs.Needs.AttachesNeeded.{no_memory}
use Rattle.middleware.specs.declared.fault.RunFault.TheVariants as fault
use Rattle.rule_rows.specs.RuleRelations.{RulesName, needed_verified}
use Rattle.rule_rows.specs.Verifying.Verifies.{not_attached}
use Rattle.rule_rows.proofs.Missing.{listed_verified, first_there, verifies_alike}
use Rattle.rule_rows.proofs.executing.verify_for.Goals as goal

-- the lists that are lent are those that were made
plan_lent : (schema : Schema) (plan : Plan) (others behind : List ℕ) → behind ≡ others → ((rel : ℕ) → Contains others rel ↔ IsAccessed schema plan rel)
    → (rel : ℕ) → Contains behind rel ↔ IsAccessed schema plan rel
plan_lent schema plan others behind is exactly = subst (λ (l : List ℕ). (rel : ℕ) → Contains l rel ↔ IsAccessed schema plan rel) (sym is) exactly

both_lent : (schema : Schema) (own others first behind passed : List ℕ) → first ≡ own → behind ≡ others → passed ≡ others
    → ((rel : ℕ) → Contains own rel ↔ (Contains passed rel ⊎ RulesName schema rel)) → (rel : ℕ) → Contains first rel ↔ (Contains behind rel ⊎ RulesName schema rel)
both_lent schema own others first behind passed first_is behind_is passed_is exactly rel =
    subst (λ (l : List ℕ). Contains l rel ↔ (Contains behind rel ⊎ RulesName schema rel)) (sym first_is)
    (subst (λ (l : List ℕ). Contains own rel ↔ (Contains l rel ⊎ RulesName schema rel)) (passed_is ∙ sym behind_is) (exactly rel))

pub returns-in-Err-clause-verifies : goal.returns-in-Err-clause-verifies
returns-in-Err-clause-verifies g c = not_attached fault.NoMemory (no_memory (inl refl))

pub returns-in-Err-clause-lanes : goal.returns-in-Err-clause-lanes
returns-in-Err-clause-lanes g c = LanesStay-refl g.S.Source.seen c.args.lanes.now

pub returns-in-Err-with_accessed-clause-verifies : goal.returns-in-Err-with_accessed-clause-verifies
returns-in-Err-with_accessed-clause-verifies g c = not_attached fault.NoMemory (no_memory (inl refl))

pub returns-in-Err-with_accessed-clause-lanes : goal.returns-in-Err-with_accessed-clause-lanes
returns-in-Err-with_accessed-clause-lanes g c = LanesStay-refl g.S.Source.seen c.args.lanes.now

pub attach_and_test-requires-clause-among : goal.attach_and_test-requires-clause-among
attach_and_test-requires-clause-among g c κs within = λ rel among.
    subst (λ (l : List ℕ). Contains l rel) (sym c.as_slice-2.ensures.value) ((c.in-Ok-with_accessed.ensures.exactly rel).1 (inl
    (subst (λ (l : List ℕ). Contains l rel) (sym c.as_slice.ensures.value) (subst (λ (l : List ℕ). Contains l rel) c.as_slice-3.ensures.value among))))

pub attach_and_test-requires-clause-there : goal.attach_and_test-requires-clause-there
attach_and_test-requires-clause-there g c κs within =
    first_there c.args.schema.now c.args.plan.now c.as_slice-2.result.now c.as_slice-3.result.now
    (plan_lent c.args.schema.now c.args.plan.now c.in-Ok.rels.items c.as_slice-3.result.now c.as_slice-3.ensures.value c.in-Ok.ensures.exactly)
    (both_lent c.args.schema.now c.in-Ok-with_accessed.rels.items c.in-Ok.rels.items c.as_slice-2.result.now c.as_slice-3.result.now c.as_slice.result.now
    c.as_slice-2.ensures.value c.as_slice-3.ensures.value c.as_slice.ensures.value c.in-Ok-with_accessed.ensures.exactly)

pub attach_and_test-requires-clause-rules : goal.attach_and_test-requires-clause-rules
attach_and_test-requires-clause-rules g c κs within = λ rel named.
    subst (λ (l : List ℕ). Contains l rel) (sym c.as_slice-2.ensures.value) ((c.in-Ok-with_accessed.ensures.exactly rel).1 (inr named))

pub returns-clause-verifies : goal.returns-clause-verifies
returns-clause-verifies g c =
    verifies_alike c.args.schema.now g.S.Source.seen (needed c.as_slice-2.result.now c.as_slice-3.result.now) (needed_verified c.args.schema.now c.args.plan.now)
    (listed_verified c.args.schema.now c.args.plan.now c.as_slice-2.result.now c.as_slice-3.result.now
    (plan_lent c.args.schema.now c.args.plan.now c.in-Ok.rels.items c.as_slice-3.result.now c.as_slice-3.ensures.value c.in-Ok.ensures.exactly)
    (both_lent c.args.schema.now c.in-Ok-with_accessed.rels.items c.in-Ok.rels.items c.as_slice-2.result.now c.as_slice-3.result.now c.as_slice.result.now
    c.as_slice-2.ensures.value c.as_slice-3.ensures.value c.as_slice.ensures.value c.in-Ok-with_accessed.ensures.exactly))
    c.args.lanes.now c.attach_and_test.new.lanes c.attach_and_test.result c.attach_and_test.ensures.verifies
