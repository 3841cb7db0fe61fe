-- The queries of the branches of a plan.
use Rattle.std.specs.Prelude.{◌≡◌, ◌≤◌, ℕ, Contains, Option, Some, None}
use Rattle.meaning.specs.declared.types.Term.{Term}
use Rattle.meaning.specs.declared.types.Term.TheVariants.{Var, Const as Said}
use Rattle.meaning.specs.declared.types.Atom.{Atom}
use Rattle.meaning.specs.declared.types.Method.{Method}
use Rattle.meaning.specs.declared.types.SchemaParts.{SchemaParts}
use Rattle.meaning.specs.declared.types.Query.{Query}
use Rattle.meaning.specs.declared.types.Place.{Place}
use Rattle.meaning.specs.declared.types.Place.TheVariants.{Const, Col, New}
use Rattle.meaning.specs.declared.types.Step.{Step}
use Rattle.meaning.specs.declared.types.Branch.{Branch}
use Rattle.meaning.specs.declared.types.Plan.{Plan}
use Rattle.meaning.specs.Values.{Value}
use Rattle.meaning.specs.Sorts.{AtomsAreSorted}
use Rattle.meaning.specs.Plans.{IsMethod, NamesMethods}
use Rattle.meaning.specs.Judge.{terms_of, columns_of, IsBranchQuery}
use Rattle.rule_pass.specs.declared.pass.TheConstants.{HIGHEST_FIRST_LABEL}

-- A branch has its query, where the constants of that at integer columns are integers. Another branch has none: it has no row on an
-- instance of integers.
abbrev pub IsBranchForm : SchemaParts → Branch → Option Query → Type 0
IsBranchForm schema branch (Some query) = IsBranchQuery schema branch query × AtomsAreSorted schema query.atoms
IsBranchForm schema branch None =
    (query : Query) × IsBranchQuery schema branch query × (AtomsAreSorted schema query.atoms → ⊥)

-- Some method has the name.
abbrev pub NamesMethod : SchemaParts → Value → Type 0
NamesMethod schema name = (method : Method) × IsMethod schema name method

-- The relation is that of the method of that name.
abbrev pub IsRelationOf : SchemaParts → Value → ℕ → Type 0
IsRelationOf schema name rel = (method : Method) × IsMethod schema name method × (rel ≡ method.rel)

-- The atom is that of a step before which there are so many columns.
abbrev pub IsAtomOf : SchemaParts → ℕ → Step → Atom → Type 0
IsAtomOf schema columns step atom =
    (method : Method) × IsMethod schema step.method method
    × (atom ≡ record { rel = method.rel; terms = terms_of columns step.places })

-- The term of a place before which there are so many columns.
abbrev pub place_term : ℕ → Place → Term
place_term n (Const c) = Said c
place_term n (Col k) = Var k
place_term n New = Var n

-- A branch can be a query where its steps name methods and its columns are few enough to be labels.
pub record CanBeQuery (schema : SchemaParts) (branch : Branch) : Type 0 where
  pub named : NamesMethods schema branch.steps
  pub few : columns_of 0 branch.steps ≤ HIGHEST_FIRST_LABEL

-- The branches of a plan can be queries.
abbrev pub CanBeQueries : SchemaParts → Plan → Type 0
CanBeQueries schema plan = (branch : Branch) → Contains plan.branches branch → CanBeQuery schema branch

-- Each branch makes at most as many columns as there may be labels at first.
abbrev pub HasFewColumns : Plan → Type 0
HasFewColumns plan = (branch : Branch) → Contains plan.branches branch → columns_of 0 branch.steps ≤ HIGHEST_FIRST_LABEL
