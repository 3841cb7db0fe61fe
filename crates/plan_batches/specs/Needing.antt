-- The relations that plans access, as lists, one for each plan.
use Rattle.std.specs.Prelude.{◌≡◌, ◌↔◌, ◌<◌, ℕ, List, Contains, Some, slice_get}
use Rattle.meaning.specs.declared.types.Plan.{Plan}
use Rattle.access_schema.specs.declared.schema.Schema.{Schema}
use Rattle.middleware.specs.PlanSources.{IsAccessed}
use Rattle.middleware.specs.declared.fault.RunFault.{RunFault}
use Rattle.middleware.specs.declared.fault.RunFault.TheVariants as fault
use Rattle.plan_batches.specs.declared.needs.Accessed.{Accessed}

-- these are just the relations that the plan accesses
abbrev pub Accesses : Schema → Plan → Accessed → Type 0
Accesses schema plan one = (rel : ℕ) → Contains one.rels.items rel ↔ IsAccessed schema plan rel

-- one of these has the relation
abbrev pub StandsIn : List Accessed → ℕ → Type 0
StandsIn each rel = (one : Accessed) × Contains each one × Contains one.rels.items rel

-- the one of this number is the first that has the relation
pub record IsFirstIn (each : List Accessed) (number rel : ℕ) : Type 0 where
  pub one : Accessed
  pub at : slice_get each number ≡ Some one
  pub among : Contains one.rels.items rel
  pub before : (k : ℕ) (other : Accessed) → k < number → slice_get each k ≡ Some other → Contains other.rels.items rel → ⊥

-- one of these has the relation of a fault of the attaches
abbrev pub HasRelation : List Accessed → RunFault → Type 0
HasRelation each fault.NoMemory = Unit {0}
HasRelation each (fault.NoSource rel) = StandsIn each rel
HasRelation each (fault.UnknownKind rel) = StandsIn each rel
HasRelation each (fault.Attach rel why) = StandsIn each rel
HasRelation each other = ⊥

-- the first of these that has the relation of a fault of the attaches
abbrev pub IsNamedIn : List Accessed → ℕ → RunFault → Type 0
IsNamedIn each number fault.NoMemory = number ≡ 0
IsNamedIn each number (fault.NoSource rel) = IsFirstIn each number rel
IsNamedIn each number (fault.UnknownKind rel) = IsFirstIn each number rel
IsNamedIn each number (fault.Attach rel why) = IsFirstIn each number rel
IsNamedIn each number other = ⊥
