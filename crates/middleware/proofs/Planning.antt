-- What the branches of a plan mean on an instance, and what a lane holds for them.
use Rattle.std.proofs.Common.{◌≡◌, inl, inr, ⊎_elim, List, [], ◌∷◌, ◌++◌, Some, refl, sym, subst}
use Rattle.std.specs.Prelude.{Contains, slice_get}
use Rattle.lists.proofs.Members.{contains_here, contains_cases, got_below, contains_none}
use Rattle.meaning.specs.declared.types.Fact.{Fact}
use Rattle.meaning.specs.declared.types.Method.{Method}
use Rattle.meaning.specs.declared.types.Relation.{Relation}
use Rattle.meaning.specs.declared.types.SchemaParts.{SchemaParts}
use Rattle.meaning.specs.declared.types.Step.{Step}
use Rattle.meaning.specs.declared.types.Branch.{Branch}
use Rattle.meaning.specs.declared.types.Plan.{Plan}
use Rattle.meaning.specs.declared.types.Request.{Request}
use Rattle.meaning.specs.Plans.{IsWellFormed, IsMethod}
use Rattle.meaning.specs.Rows.{IsBranchRow}
use Rattle.access_schema.specs.declared.schema.Schema.{Schema}
use Rattle.access_schema.specs.Meaning.{meaning_of}
use Rattle.source_trait.specs.Asking.{RowList}
use Rattle.middleware.specs.PlanSources.{IsAccessed}
use Rattle.middleware.specs.Branches.{AddsBranch, BranchesMean}
use Rattle.middleware.proofs.Steps.{in_append, append_first, append_second}
use Rattle.middleware.proofs.Existing.{branches_append, branches_one}

-- a relation that a step accesses is one of the schema
pub relation_there : (schema : Schema) (method : Method) → Contains schema.methods method → (relation : Relation) × (slice_get schema.relations method.rel ≡ Some relation)
relation_there schema method among = got_below schema.relations method.rel (schema.valid.methods_are.placed method among)

pub accessed_by : (schema : Schema) (plan : Plan) (its : Branch) (step : Step) (method : Method) → Contains plan.branches its → Contains its.steps step → IsMethod (meaning_of schema) step.method method → IsAccessed schema plan method.rel
accessed_by schema plan its step method of_plan of_branch named = record { branch = its; step = step; method = method; of_plan = of_plan; of_branch = of_branch; named = named; of_relation = refl }

-- ---- what the rounds of a plan mean on an instance

module _ (schema : SchemaParts) (well : IsWellFormed schema) (instance : List Fact) where
  -- the rows and the requests of one branch more
  pub branches_more : (before : List Branch) (its : Branch) (rows next : RowList) (list more : List Request) → BranchesMean schema instance before rows list
      → AddsBranch schema instance its rows next more → BranchesMean schema instance (before ++ its ∷ []) next (list ++ more)
  branches_more before its rows next list more m a = record {
    exactly = λ row. (
      (λ c. ⊎_elim (λ h. let (b, among, of) = (m.exactly row).0 h in (b, append_first before (its ∷ []) b among, of))
          (λ h. (its, append_second before (its ∷ []) its (contains_here its []), h)) ((a.exactly row).0 c)),
      (λ (b, among, of). (a.exactly row).1 (elim (in_append before (its ∷ []) b among) [
        | inl first ↦ inl ((m.exactly row).1 (b, first, of))
        | inr second ↦ inr (subst (λ (x : Branch). IsBranchRow schema x instance row) (sym (only b second)) of)
      ])),
    );
    are = branches_append schema well instance before (its ∷ []) list more m.are (branches_one schema well instance its more a.are);
  }
    where
      only : (b : Branch) → Contains (its ∷ []) b → its ≡ b
      only b h = ⊎_elim (λ e. e) (λ n. absurd (contains_none b n)) (contains_cases its [] b h)
