-- The branch that is read off the exposures of a proof
-- (Benedikt, Leblay, ten Cate and Tsamoura 2016, plans from proofs).
use Rattle.std.specs.Prelude.{◌≡◌, ℕ, ◌+◌, ◌≤◌, suc, List, [], ◌∷◌, ◌++◌, Contains, map, slice_get, Option, Some, None, if◌then◌else◌, ◌==◌}
use Rattle.meaning.specs.declared.types.Method.{Method}
use Rattle.meaning.specs.declared.types.SchemaParts.{SchemaParts}
use Rattle.meaning.specs.declared.types.Fact.{Fact}
use Rattle.meaning.specs.declared.types.Query.{Query}
use Rattle.meaning.specs.declared.types.Place.{Place}
use Rattle.meaning.specs.declared.types.Out.{Out}
use Rattle.meaning.specs.declared.types.Step.{Step}
use Rattle.meaning.specs.declared.types.Branch.{Branch}
use Rattle.meaning.specs.declared.types.Val.{Val}
use Rattle.meaning.specs.declared.types.Ground.{Ground}
use Rattle.meaning.specs.declared.types.Trigger.{Trigger}
use Rattle.meaning.specs.declared.types.Val.TheVariants.{Const as Known, Label}
use Rattle.meaning.specs.declared.types.Place.TheVariants.{Const, Col, New}
use Rattle.meaning.specs.declared.types.Out.TheVariants.{Const as Fixed, Col as Made}
use Rattle.meaning.specs.Values.{Value, Row}
use Rattle.meaning.specs.Matching.{IsQueryAnswer, GroundsOf, AnswersQuery}
use Rattle.meaning.specs.Plans.{IsLawfulBranch}
use Rattle.meaning.specs.Rows.{IsBranchRow}
use Rattle.meaning.specs.Claims.{IsModel}
use Rattle.meaning.specs.Triggers.{bound, State, IsQuiet, IsFiringRun}
use Rattle.meaning.specs.Runs.{IsKnownValue, opening_state}
use Rattle.meaning.specs.Naming.{IsNamed, AreNamed}
use Rattle.meaning.specs.Fitting.{Fit}

-- An exposure is a fact with the method that exposes it.
pub record Exposure : Type 0 where
  pub method : Method
  pub fact : Ground

-- The facts of exposures.
abbrev pub exposed_facts : List Exposure → List Ground
exposed_facts exposures = map (λ e. e.fact) exposures

-- The column after a column, if there is one.
abbrev pub next_column : Option ℕ → Option ℕ
next_column None = None
next_column (Some i) = Some (suc i)

-- The column of a label, where `columns` has the label of each column made so far.
abbrev pub column_of : List ℕ → ℕ → Option ℕ
column_of [] k = None
column_of (j ∷ columns) k = if j == k then Some 0 else next_column (column_of columns k)

-- A label that has a column is that column, and another is new.
abbrev pub label_place : Option ℕ → Place
label_place None = New
label_place (Some i) = Col i

-- A new label gets the next column.
abbrev pub with_label : List ℕ → ℕ → Option ℕ → List ℕ
with_label columns k None = columns ++ k ∷ []
with_label columns k (Some i) = columns

-- The places of a fact's values.
abbrev pub places_of : List ℕ → List Val → List Place
places_of columns [] = []
places_of columns (Known c ∷ vals) = Const c ∷ places_of columns vals
places_of columns (Label k ∷ vals) =
    label_place (column_of columns k) ∷ places_of (with_label columns k (column_of columns k)) vals

-- The columns after a fact's values.
abbrev pub columns_after : List ℕ → List Val → List ℕ
columns_after columns [] = columns
columns_after columns (Known c ∷ vals) = columns_after columns vals
columns_after columns (Label k ∷ vals) = columns_after (with_label columns k (column_of columns k)) vals

-- One step for each exposure.
abbrev pub steps_of : List ℕ → List Exposure → List Step
steps_of columns [] = []
steps_of columns (e ∷ exposures) =
    record { method = e.method.name; places = places_of columns e.fact.vals }
    ∷ steps_of (columns_after columns e.fact.vals) exposures

-- The columns after all exposures.
abbrev pub all_columns : List ℕ → List Exposure → List ℕ
all_columns columns [] = columns
all_columns columns (e ∷ exposures) = all_columns (columns_after columns e.fact.vals) exposures

-- The output place of a label with its column.
abbrev pub label_out : Option ℕ → Out
label_out None = Made 0
label_out (Some i) = Made i

-- The output place of a value.
abbrev pub out_of : List ℕ → Val → Out
out_of columns (Known c) = Fixed c
out_of columns (Label k) = label_out (column_of columns k)

-- The branch of exposures for a head has one step for each exposure, and the head's places as its output.
abbrev pub branch_of : List Exposure → List Val → Branch
branch_of exposures head =
    record { steps = steps_of [] exposures; output = map (out_of (all_columns [] exposures)) head }

-- A derivation is firings from a query's opening state, exposures of facts that are then there, by methods of their
-- relations, and firings from the exposed facts alone.
pub record IsDerivation (schema : SchemaParts) (query : Query) (base : List Trigger) (middle : State)
    (exposures : List Exposure) (copy : List Trigger) (end : State) : Type 0 where
  pub opening : bound query.atoms ≤ query.variables
  pub base_run : IsFiringRun schema.rules (opening_state query) base middle
  pub of_schema : (e : Exposure) → Contains exposures e →
      Contains schema.methods e.method × (e.method.rel ≡ e.fact.rel)
  pub of_base : (e : Exposure) → Contains exposures e → Contains middle.facts e.fact
  pub copy_run : IsFiringRun schema.rules (record { facts = exposed_facts exposures; next = middle.next }) copy end

-- Each label of the head is one of an exposed fact.
abbrev pub IsHeadKnown : List Exposure → List Val → Type 0
IsHeadKnown exposures head =
    (k : ℕ) → Contains head (Label k) → (e : Exposure) × Contains exposures e × Contains e.fact.vals (Label k)

-- An input value is a constant of the list or a label that has a column.
abbrev pub IsInput : List Value → List ℕ → Val → Type 0
IsInput constants columns (Known c) = Contains constants c
IsInput constants columns (Label k) = Contains columns k

-- The input values of each exposure are constants of the list or labels of earlier exposures.
abbrev pub AreInOrder : List Value → List ℕ → List Exposure → Type 0
AreInOrder constants columns [] = Unit {0}
AreInOrder constants columns (e ∷ exposures) =
    ((p : ℕ) (v : Val) → Contains e.method.inputs p → slice_get e.fact.vals p ≡ Some v → IsInput constants columns v)
    × AreInOrder constants (columns_after columns e.fact.vals) exposures

-- An exposure is possible where its fact is a base fact that is not exposed yet, and its method is one of the fact's
-- relation with known values at its inputs.
pub record Exposes (schema : SchemaParts) (constants : List Value) (base exposed : List Ground)
    (e : Exposure) : Type 0 where
  pub of_base : Contains base e.fact
  pub new : Contains exposed e.fact → ⊥
  pub of_schema : Contains schema.methods e.method
  pub of_relation : e.method.rel ≡ e.fact.rel
  pub inputs : (p : ℕ) → Contains e.method.inputs p →
      (value : Val) × (slice_get e.fact.vals p ≡ Some value) × IsKnownValue constants exposed value

-- Exposures are in order where each is possible after those before it.
abbrev pub IsExposing : SchemaParts → List Value → List Ground → List Ground → List Exposure → Type 0
IsExposing schema constants base exposed [] = Unit {0}
IsExposing schema constants base exposed (e ∷ exposures) =
    Exposes schema constants base exposed e × IsExposing schema constants base (exposed ++ e.fact ∷ []) exposures

-- The cost of exposures is the sum of the costs of their methods.
abbrev pub exposures_cost : List Exposure → ℕ
exposures_cost [] = 0
exposures_cost (e ∷ exposures) = e.method.cost + exposures_cost exposures

-- A base for a query is a quiet state with names and arities on which the head answers the query.
pub record IsBase (schema : SchemaParts) (constants : List Value) (query : Query) (base : State)
    (head : List Val) : Type 0 where
  pub quiet : IsQuiet schema.rules base
  pub named : AreNamed constants base.next base.facts
  pub fits : Fit schema base.facts
  pub answered : IsQueryAnswer Known (GroundsOf base.facts) query head
  pub head_named : (v : Val) → Contains head v → IsNamed constants base.next v

-- A rival for one of the queries is a lawful branch whose rows on every model are answers of the queries, and have
-- all answers of that query.
pub record IsQueryRival (schema : SchemaParts) (constants : List Value) (queries : List Query) (query : Query)
    (branch : Branch) : Type 0 where
  pub lawful : IsLawfulBranch schema constants branch
  pub sound : (facts : List Fact) (row : Row) → IsModel schema facts → IsBranchRow schema branch facts row →
      (goal : Query) × Contains queries goal × AnswersQuery goal facts row
  pub complete : (facts : List Fact) (row : Row) → IsModel schema facts →
      AnswersQuery query facts row → IsBranchRow schema branch facts row
