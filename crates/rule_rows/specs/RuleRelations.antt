-- The relations that some rule names, and which lane needs them.
use Rattle.std.specs.Prelude.{◌≡◌, ◌⊎◌, ◌↔◌, ◌++◌, ℕ, List, Contains}
use Rattle.std.specs.List.Sorted.{IsStrictlyIncreasing}
use Rattle.meaning.specs.declared.types.Atom.{Atom}
use Rattle.meaning.specs.declared.types.Plan.{Plan}
use Rattle.meaning.specs.declared.types.Rule.{Rule}
use Rattle.access_schema.specs.declared.schema.Schema.{Schema}
use Rattle.middleware.specs.PlanSources.{IsAccessed}

-- Some rule of the schema names the relation.
pub record RulesName (schema : Schema) (rel : ℕ) : Type 0 where
  pub rule : Rule
  pub atom : Atom
  pub of_schema : Contains schema.rules rule
  pub of_rule : Contains (rule.body ++ rule.head) atom
  pub of_relation : atom.rel ≡ rel

-- These are the relations that some rule names, ascending, each once.
pub record AreRuleRelations (schema : Schema) (rels : List ℕ) : Type 0 where
  pub ascends : IsStrictlyIncreasing rels
  pub exactly : (rel : ℕ) → Contains rels rel ↔ RulesName schema rel

-- For verifying the first lane needs the relations that some rule names, and no other lane needs one.
abbrev pub needed_first : Schema → ℕ → ℕ → Type 0
needed_first schema place rel = (place ≡ 0) × RulesName schema rel

-- For an execution with verifying each lane needs the relations of the plan, and the first one those that some rule names too.
abbrev pub needed_verified : Schema → Plan → ℕ → ℕ → Type 0
needed_verified schema plan place rel = IsAccessed schema plan rel ⊎ needed_first schema place rel
