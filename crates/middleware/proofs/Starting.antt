-- What is known of a lawful plan and its relations.
use Rattle.std.proofs.Common.{◌≡◌, ℕ, List, Some, refl, ◌∙◌, sym, ap}
use Rattle.std.specs.Prelude.{Contains, IsSome, slice_get}
use Rattle.meaning.specs.declared.types.Relation.{Relation}
use Rattle.meaning.specs.declared.types.SchemaParts.{SchemaParts}
use Rattle.meaning.specs.declared.types.Branch.{Branch}
use Rattle.meaning.specs.declared.types.Plan.{Plan}
use Rattle.meaning.specs.Plans.{IsLawful}
use Rattle.access_schema.specs.declared.schema.Schema.{Schema}
use Rattle.access_schema.specs.Meaning.{meaning_of}
use Rattle.access_schema.proofs.Keeping.{well_formed}
use Rattle.middleware.specs.PlanSources.{IsAccessed}
use Rattle.middleware.specs.Branches.{IsReadyBranch}
use Rattle.middleware.proofs.Branching.{branch_ready}
use Rattle.middleware.proofs.Planning.{relation_there}

module _ (schema : Schema) (plan : Plan) where
  abbrev parts : SchemaParts
  parts = meaning_of schema

  pub all_ready : (constants : List (List ℕ)) → IsLawful plan parts constants → (its : Branch) → Contains plan.branches its → IsReadyBranch parts its
  all_ready constants lawful its c = branch_ready parts (well_formed schema) constants its (lawful its c).1

  -- an accessed relation is one of the schema
  pub relation_of : (rel : ℕ) → IsAccessed schema plan rel → (relation : Relation) × (slice_get schema.relations rel ≡ Some relation)
  relation_of rel a =
      let (relation, there) = relation_there schema a.method a.named.0 in
      (relation, ap (slice_get schema.relations) (sym a.of_relation) ∙ there)

  pub accessed_there : (rel : ℕ) → IsAccessed schema plan rel → IsSome (slice_get schema.relations rel)
  accessed_there rel a = let (relation, is) = relation_of rel a in rw is refl
