-- The requests of one step, asked of lanes, and their answers.
use Rattle.std.specs.Prelude.{◌≡◌, ◌↔◌, ◌≤◌, ℕ, List, length, Contains, Some, Result, IfOk, IfErr, OnOk, IsErrOf, slice_get}
use Rattle.meaning.specs.declared.types.Fact.{Fact}
use Rattle.meaning.specs.declared.types.Method.{Method}
use Rattle.access_schema.specs.declared.schema.Schema.{Schema}
use Rattle.access_schema.specs.declared.schema.SourceLine.{SourceLine}
use Rattle.source_trait.specs.Asking.{RowList, Seen, pick}
use Rattle.source_trait.specs.declared.source.CallFault.{CallFault}
use Rattle.source_trait.specs.declared.source.CallFault.TheVariants as call
use Rattle.source_trait.specs.declared.lanes.Lane.{Lane}
use Rattle.source_trait.specs.declared.work.Ask.{Ask}
use Rattle.middleware.specs.PlanSources.{line_for}
use Rattle.middleware.specs.Held.{HoldsRelation}
use Rattle.middleware.specs.Rounds.{requests_of}
use Rattle.middleware.specs.LaneRounds.{AsksEach, AsksSome, NoneStopped}
use Rattle.middleware.specs.LaneBranches.{OnEach, FailsOnLane}

-- the request of the method with these values, for a source of the kind
abbrev pub ask_of : List ℕ → Method → List (List ℕ) → Ask
ask_of kind method values = record { kind = kind; request = record { rel = method.rel; positions = method.inputs; values = values } }

-- there are as many answers as requests, and each has just the rows of the facts that its request asks for
pub record AnswersFrom (facts : List Fact) (method : Method) (requests : RowList) (answers : List RowList) : Type 0 where
  pub len : length answers ≡ length requests
  pub each : (k : ℕ) (values : List (List ℕ)) (rows : RowList) → slice_get requests k ≡ Some values → slice_get answers k ≡ Some rows
      → (row : List (List ℕ)) → Contains rows row ↔ Contains (pick facts method.rel method.inputs values) row

module _ {S : Type 0} (seen : S → Seen) (schema : Schema) where
  -- each lane holds the relation, where its source line says, with just the facts of the instance
  abbrev pub LanesHoldRelation : ℕ → List (Lane S) → List Fact → Type 0
  LanesHoldRelation rel lanes instance = (line : SourceLine) → line_for rel schema.sources ≡ Some line
      → OnEach lanes (λ kinds. HoldsRelation seen kinds line.kind rel instance)

  -- The requests of a method were asked of the lanes: on success each once, with an answer to each; at a refusal each at most once.
  pub record AsksWanted (method : Method) (requests : RowList) (result : Result (List RowList) CallFault) (old new : List (Lane S)) : Type 0 where
    pub asks : IfOk result (λ answers. AsksEach seen schema (requests_of method.rel method.inputs requests) old new)
    pub answers : IfOk result (λ answers. (instance : List Fact) → LanesHoldRelation method.rel old instance
        → AnswersFrom instance method requests answers)
    pub going : OnOk result (NoneStopped new)
    pub refused : IfErr result (λ fault. AsksSome seen schema (requests_of method.rel method.inputs requests) old new)
    pub some : IsErrOf result call.Failed → 1 ≤ length requests
    pub failed : IsErrOf result call.Failed → FailsOnLane seen schema method.rel (requests_of method.rel method.inputs requests) old new
