-- What a run without faults is given, command by command, and the statuses with which it ends.
use Rattle.std.specs.Prelude.{◌≡◌, ◌≤◌, ◌<◌, ◌+◌, ◌++◌, ℕ, Bool, List, [], ◌∷◌, take, Contains, true, false, length, nat_eq, slice_get}
use Rattle.std.specs.Prelude.{Option, None, Some, IfSome, IsSome, IsSomeAnd, IsOk, Ok, if◌then◌else◌}
use Rattle.std.specs.Cmp.Lexicographic.{pointwise}
use Rattle.std.specs.List.{AllZip}
use Rattle.meaning.specs.declared.types.Fact.{Fact}
use Rattle.meaning.specs.declared.types.Plan.{Plan}
use Rattle.meaning.specs.declared.types.Relation.{Relation}
use Rattle.meaning.specs.declared.types.Request.{Request}
use Rattle.meaning.specs.declared.types.Statement.{Statement}
use Rattle.meaning.specs.Crawls.{IsCrawlRound, AreCrawlRounds}
use Rattle.meaning.specs.Matching.{itself}
use Rattle.meaning.specs.Sorts.{HoldsIntegers, AreSorted}
use Rattle.access_schema.specs.declared.schema.Schema.{Schema}
use Rattle.access_schema.specs.declared.schema.SourceLine.{SourceLine}
use Rattle.access_schema.specs.Meaning.{meaning_of}
use Rattle.tgd_reader.specs.SchemaText.{IsSchemaText}
use Rattle.sql_select.specs.Statements.{IsStatementText}
use Rattle.sql_batch.specs.Batches.{IsBatchText}
use Rattle.plan_form.specs.Grammar.{IsPlanText}
use Rattle.findings.specs.declared.decision.Chosen.{Chosen}
use Rattle.explain.specs.Printing.{planned_text}
use Rattle.source_trait.specs.Asking.{RowList, Rises, Seen, offered_now, facts_of, pick}
use Rattle.source_trait.specs.Causes.{Rose}
use Rattle.source_trait.specs.Lanes.{source_of, AtKind}
use Rattle.source_trait.specs.Outside.{bytes_of}
use Rattle.source_trait.specs.declared.lanes.Kind.{Kind}
use Rattle.source_trait.specs.declared.lanes.Lane.{Lane}
use Rattle.middleware.specs.PlanSources.{line_for, IsAccessed}
use Rattle.middleware.specs.Attaching.{AttachesInOrder, AllAttached}
use Rattle.plan_execution.specs.PlanRounds.{IsRoundAt}
use Rattle.middleware.specs.Held.{SameFacts}
use Rattle.middleware.specs.LaneBranches.{LanesHoldPlan}
use Rattle.middleware.specs.Needs.{AttachesNeeded}
use Rattle.bad_numbers.specs.Numbers.{HaveIntegers}
use Rattle.shared_rounds.specs.SharedRounds.{Once, AreRounds}
use Rattle.plan_batches.specs.Batching.{NeedsOf, needed_by_all, LanesHoldAll}
use Rattle.crawl.specs.Crawling.{IsReachable, needed_to_crawl, asked_in, LanesHoldReachable}
use Rattle.command_io.specs.declared.delivery.TheConstants.{CALLS}
use Rattle.command_io.specs.declared.exit_status.Status.{Status}
use Rattle.command_io.specs.declared.exit_status.Status.TheVariants as is
use Rattle.command_io.specs.declared.inputs.TheConstants.{SCHEMA_LIMIT, QUERY_LIMIT, PLAN_LIMIT}
use Rattle.command_io.specs.Inputs.{Contents, without_mark}
use Rattle.command_io.specs.Moments.{Moment}
use Rattle.command_io.specs.Writing.{TookAll}
use Rattle.command_words.specs.Words.{Command}
use Rattle.command_words.specs.Words.Command.{Help, Schema as Print, Explain, Run, Batch, Exec, Check, Verify, Crawl, Reach, World}
use Rattle.world_source.specs.Texts.{schema_text, query_text}
use Rattle.run_command.specs.Deciding.{IsPlanned}
use Rattle.run_command.specs.declared.world.TheConstants.{FIRINGS, UNITS}
use Rattle.batch_command.specs.Deciding.{Told, plans_of, told_text}
use Rattle.exec_command.specs.Ends.{MayRun}
use Rattle.rule_rows.specs.RuleRelations.{RulesName, needed_first, needed_verified}
use Rattle.rule_rows.specs.Verifying.{Verifies, used}

-- The command was answered, or memory was wanted.
pub data IsAnswered : Status → Type 0 where
  done : IsAnswered is.Done
  no : IsAnswered is.No
  undecided : IsAnswered is.Undecided
  no_memory : IsAnswered is.Memory

-- No count of faults rose, of the files or of an output.
pub record NoneRose (before after : Moment) : Type 0 where
  pub files : Rose before.file_faults after.file_faults → ⊥
  pub out : Rose before.out_faults after.out_faults → ⊥
  pub err : Rose before.err_faults after.err_faults → ⊥

-- ---- texts

-- The files are told, one has this name and is within the limit, and its text has the fact.
pub record IsGiven (told : Option Contents) (name : List ℕ) (limit : ℕ) (P : List ℕ → Type 0) : Type 0 where
  pub files : Contents
  pub bytes : List ℕ
  pub are_told : told ≡ Some files
  pub there : bytes_of files name ≡ Some bytes
  pub within : length bytes ≤ limit
  pub holds : P (without_mark bytes)

abbrev pub SchemaIsGiven : Option Contents → List ℕ → Schema → Type 0
SchemaIsGiven told name schema = IsGiven told name SCHEMA_LIMIT (λ text. IsSchemaText text schema)

abbrev pub QueryIsGiven : Option Contents → List ℕ → Schema → Statement → Type 0
QueryIsGiven told name schema statement = IsGiven told name QUERY_LIMIT (λ text. IsStatementText schema text statement)

abbrev pub BatchIsGiven : Option Contents → List ℕ → Schema → List Statement → Type 0
BatchIsGiven told name schema statements = IsGiven told name QUERY_LIMIT (λ text. IsBatchText schema text statements)

abbrev pub PlanIsGiven : Option Contents → List ℕ → Plan → Type 0
PlanIsGiven told name plan = IsGiven told name PLAN_LIMIT (λ text. IsPlanText text plan)

-- ---- sources

-- What the source of the relation's line now offers to attach is rows, where that is told.
abbrev pub OffersRows : {S : Type 0} → (S → Seen) → Schema → List (Kind S) → ℕ → Type 0
OffersRows {S} seen schema kinds rel = (relation : Relation) (line : SourceLine) (source : S) →
    slice_get schema.relations rel ≡ Some relation → line_for rel schema.sources ≡ Some line → source_of kinds line.kind ≡ Some source →
    IfSome (offered_now (seen source) rel relation.columns line.locator) IsOk

-- The count of faults of the lane's source of this kind did not rise.
abbrev pub NoRiseOf : {S : Type 0} → (S → Seen) → List ℕ → List (Kind S) → List (Kind S) → Type 0
NoRiseOf {S} seen kind old new = (before after : S) → source_of old kind ≡ Some before → source_of new kind ≡ Some after →
    Rose (seen before).faults (seen after).faults → ⊥

-- No count rose of a source whose kind is that of the source line of a relation that is needed.
abbrev pub NoSourceRose : {S : Type 0} → (S → Seen) → Schema → (ℕ → Type 0) → List (Kind S) → List (Kind S) → Type 0
NoSourceRose seen schema IsNeeded old new = (rel : ℕ) (line : SourceLine) → IsNeeded rel → line_for rel schema.sources ≡ Some line → NoRiseOf seen line.kind old new

-- it holds of the sources of each lane, from before a command to after it
abbrev pub OnLanes : {S : Type 0} → (List (Kind S) → List (Kind S) → Type 0) → List (Lane S) → List (Lane S) → Type 0
OnLanes P old new = AllZip (λ before after. P before.kinds.items after.kinds.items) old new

-- The sources of a used lane, from before a command to after it, serve the relations that it needs.
pub record Serve {S : Type 0} (seen : S → Seen) (schema : Schema) (IsNeeded : ℕ → Type 0) (old new : List (Kind S)) : Type 0 where
  -- each of the relations has a source line, of a kind that the lane has
  pub lines : (rel : ℕ) → IsNeeded rel → IsSome (line_for rel schema.sources)
  pub kinds : (rel : ℕ) (line : SourceLine) → IsNeeded rel → line_for rel schema.sources ≡ Some line → IsSome (source_of old line.kind)
  -- as they are attached in ascending order, what is then offered of the next one is rows
  pub offers : (rels : List ℕ) (rel : ℕ) (middle : List (Kind S)) → Rises (rels ++ rel ∷ []) → ((other : ℕ) → Contains rels other → IsNeeded other) → IsNeeded rel →
      AttachesInOrder seen schema rels old middle → OffersRows seen schema middle rel
  pub faults : NoSourceRose seen schema IsNeeded old new

-- The facts of these relations have integers at integer columns.
abbrev pub HasIntegers : Schema → (ℕ → Type 0) → List Fact → Type 0
HasIntegers schema IsNeeded instance = (fact : Fact) → Contains instance fact → IsNeeded fact.rel →
    AreSorted itself (meaning_of schema) fact.rel fact.row

-- The sources of a lane tell what they hold of those of these relations that have an integer column, with integers there.
abbrev pub TellIntegers : {S : Type 0} → (S → Seen) → Schema → (ℕ → Type 0) → List (Kind S) → Type 0
TellIntegers seen schema IsNeeded kinds = (rel column : ℕ) (line : SourceLine) → IsNeeded rel →
    HoldsIntegers (meaning_of schema) rel column → line_for rel schema.sources ≡ Some line →
    AtKind kinds line.kind (λ source. IsSomeAnd (seen source).held (λ facts. HaveIntegers (meaning_of schema) rel (pick facts rel [] [])))

-- None of these relations has an integer column.
abbrev pub HaveTextsAlone : Schema → (ℕ → Type 0) → Type 0
HaveTextsAlone schema IsNeeded = (rel column : ℕ) → IsNeeded rel → HoldsIntegers (meaning_of schema) rel column → ⊥

-- No round of the plan on the instance passes the cap on requests.
abbrev pub KeepsCap : Schema → Plan → List Fact → ℕ → Type 0
KeepsCap schema plan instance cap = (branch step : ℕ) (earlier now : List Request) → IsRoundAt (meaning_of schema) plan instance branch step earlier now →
    length earlier + length now ≤ cap

-- The sources of each lane hold one instance, which has integers at integer columns, and on which no round of the plan passes the cap.
pub record HoldWithin {S : Type 0} (seen : S → Seen) (schema : Schema) (plan : Plan) (cap : ℕ) (lanes : List (Lane S)) : Type 0 where
  pub instance : List Fact
  pub held : LanesHoldPlan seen schema plan lanes instance
  pub integers : HasIntegers schema (IsAccessed schema plan) instance
  pub within : KeepsCap schema plan instance cap

-- Of the used lanes: there is one where the plan accesses a relation, the sources of each serve the plan's relations, and where all of
-- these came to be attached on each, they hold integers at integer columns and no round passes the cap of so many calls.
pub record CanExecute {S : Type 0} (seen : S → Seen) (schema : Schema) (plan : Plan) (calls : ℕ) (old new : List (Lane S)) : Type 0 where
  pub some : (rel : ℕ) → IsAccessed schema plan rel → 0 < length old
  pub serve : OnLanes (Serve seen schema (IsAccessed schema plan)) old new
  pub within : OnLanes (AllAttached seen schema plan) old new → HoldWithin seen schema plan calls new

-- it holds of the sources of the lane at each place, from before a command to after it
abbrev pub AtPlaces : {S : Type 0} → (ℕ → List (Kind S) → List (Kind S) → Type 0) → List (Lane S) → List (Lane S) → Type 0
AtPlaces {S} P old new = (place : ℕ) (before after : Lane S) → slice_get old place ≡ Some before → slice_get new place ≡ Some after →
    P place before.kinds.items after.kinds.items

-- Of the used lanes, where the rules are tested first: there is one where a relation is needed, the sources of each serve the relations that
-- the lane at its place needs, the first lane tells integers at integer columns once all are attached, and where the rules were tested and
-- are all met, no round passes the cap of so many calls.
pub record CanVerify {S : Type 0} (seen : S → Seen) (schema : Schema) (plan : Plan) (calls : ℕ) (old new : List (Lane S)) : Type 0 where
  pub some : (rel : ℕ) → needed_verified schema plan 0 rel → 0 < length old
  pub serve : AtPlaces (λ place. Serve seen schema (needed_verified schema plan place)) old new
  pub integers : (middle : List (Lane S)) → AttachesNeeded seen schema (needed_verified schema plan) old middle (Ok tt) →
      TellIntegers seen schema (needed_verified schema plan 0) (used middle)
  pub within : (middle : List (Lane S)) → Verifies seen schema (needed_verified schema plan) old middle (Ok None) →
      HoldWithin seen schema plan calls middle

-- The plan can be carried out, with the rules tested first or not.
abbrev pub CanCarryOut : {S : Type 0} → (S → Seen) → Schema → ℕ → Bool → List (Lane S) → List (Lane S) → Plan → Type 0
CanCarryOut seen schema calls false old new plan = CanExecute seen schema plan calls old new
CanCarryOut seen schema calls true old new plan = CanVerify seen schema plan calls old new

-- The rounds that the plans share on the instance do not pass the cap on requests.
abbrev pub RoundsKeepCap : Schema → List Plan → List Fact → ℕ → Type 0
RoundsKeepCap schema plans instance cap = (n : ℕ) (asked : List Request) → AreRounds (meaning_of schema) instance plans Once n asked →
    length asked ≤ cap

-- The sources of each lane hold the relations of all plans of one instance, which has integers at integer columns, and on which the rounds
-- that the plans share do not pass the cap.
pub record HoldAllWithin {S : Type 0} (seen : S → Seen) (schema : Schema) (plans : List Plan) (cap : ℕ)
    (lanes : List (Lane S)) : Type 0 where
  pub instance : List Fact
  pub held : LanesHoldAll seen schema plans lanes instance
  pub integers : HasIntegers schema (NeedsOf schema plans) instance
  pub within : RoundsKeepCap schema plans instance cap

-- Of the used lanes: there is one where some plan accesses a relation, the sources of each serve the relations of all plans, and where all
-- of these came to be attached on each, they hold integers at integer columns and the rounds that the plans share do not pass the cap of so
-- many calls.
pub record CanExecuteAll {S : Type 0} (seen : S → Seen) (schema : Schema) (plans : List Plan) (calls : ℕ)
    (old new : List (Lane S)) : Type 0 where
  pub some : (rel : ℕ) → NeedsOf schema plans rel → 0 < length old
  pub serve : OnLanes (Serve seen schema (NeedsOf schema plans)) old new
  pub within : (middle : List (Lane S)) → AttachesNeeded seen schema (needed_by_all schema plans) old middle (Ok tt) →
      HoldAllWithin seen schema plans calls middle

-- No round of a crawl on the instance passes the cap on requests.
abbrev pub CrawlKeepsCap : Schema → List Fact → ℕ → Type 0
CrawlKeepsCap schema instance cap = (rounds : List (List Request)) (now : List Request) →
    AreCrawlRounds (meaning_of schema) schema.constants instance [] rounds →
    IsCrawlRound (meaning_of schema) schema.constants instance (asked_in rounds) now → length (asked_in rounds) + length now ≤ cap

-- The sources of each lane hold the reachable relations of one instance, which has integers at integer columns, and on which no round of a
-- crawl passes the cap.
pub record HoldReachable {S : Type 0} (seen : S → Seen) (schema : Schema) (cap : ℕ) (lanes : List (Lane S)) : Type 0 where
  pub instance : List Fact
  pub held : LanesHoldReachable seen schema lanes instance
  pub integers : HasIntegers schema (IsReachable schema) instance
  pub within : CrawlKeepsCap schema instance cap

-- Of the used lanes: there is one where a relation is reachable, the sources of each serve the reachable relations, and where all of these
-- came to be attached on each, they hold integers at integer columns and no round passes the cap of so many calls.
pub record CanCrawl {S : Type 0} (seen : S → Seen) (schema : Schema) (calls : ℕ) (old new : List (Lane S)) : Type 0 where
  pub some : (rel : ℕ) → IsReachable schema rel → 0 < length old
  pub serve : OnLanes (Serve seen schema (IsReachable schema)) old new
  pub within : (middle : List (Lane S)) → AttachesNeeded seen schema (needed_to_crawl schema) old middle (Ok tt) →
      HoldReachable seen schema calls middle

-- Of the first lane: its sources serve the relations that the rules name, and tell integers at integer columns once these are attached.
pub record CanTest {S : Type 0} (seen : S → Seen) (schema : Schema) (old new : List (Lane S)) : Type 0 where
  pub serve : Serve seen schema (RulesName schema) (used old) (used new)
  pub integers : (middle : List (Lane S)) → AttachesNeeded seen schema (needed_first schema) old middle (Ok tt) →
      TellIntegers seen schema (RulesName schema) (used middle)

-- ---- sources that tell

-- A source tells what it holds, and its offer of the relation, which are just the rows of the instance.
pub record OffersFacts (seen : Seen) (rel : ℕ) (columns : List (List ℕ)) (locator : List ℕ) (instance : List Fact) : Type 0 where
  pub rows : RowList
  pub tells : IsSome seen.held
  pub offered : seen.offer rel columns locator ≡ Some (Ok rows)
  pub same : SameFacts rel (facts_of rel rows) instance

-- the relation with its locator, where its source line has the kind
abbrev pub placed : List ℕ → ℕ → Option SourceLine → List (ℕ × List ℕ)
placed kind rel None = []
placed kind rel (Some line) = if pointwise nat_eq line.kind kind then (rel, line.locator) ∷ [] else []

-- those of these relations whose source lines have the kind, each with its locator
abbrev pub located : Schema → List ℕ → List ℕ → List (ℕ × List ℕ)
located schema kind [] = []
located schema kind (rel ∷ rels) = placed kind rel (line_for rel schema.sources) ++ located schema kind rels

-- The sources of a lane offer the instance as far as these relations go, which pass no limit on all attached data.
pub record OfferInstance {S : Type 0} (seen : S → Seen) (schema : Schema) (IsNeeded : ℕ → Type 0) (kinds : List (Kind S)) (instance : List Fact) : Type 0 where
  pub lines : (rel : ℕ) → IsNeeded rel → IsSome (line_for rel schema.sources)
  pub kinds_are : (rel : ℕ) (line : SourceLine) → IsNeeded rel → line_for rel schema.sources ≡ Some line → IsSome (source_of kinds line.kind)
  -- as they are attached in ascending order, those of a kind pass no limit
  pub fits : (rels : List ℕ) (rel : ℕ) (line : SourceLine) → Rises (rels ++ rel ∷ []) → ((other : ℕ) → Contains rels other → IsNeeded other) → IsNeeded rel →
      line_for rel schema.sources ≡ Some line → AtKind kinds line.kind (λ source. (seen source).passes (located schema line.kind (rels ++ rel ∷ [])) ≡ false)
  pub facts : (rel : ℕ) (relation : Relation) (line : SourceLine) → IsNeeded rel → slice_get schema.relations rel ≡ Some relation → line_for rel schema.sources ≡ Some line →
      AtKind kinds line.kind (λ source. OffersFacts (seen source) rel relation.columns line.locator instance)

-- The sources of a lane tell nothing of what they offer of these relations.
pub record OfferUntold {S : Type 0} (seen : S → Seen) (schema : Schema) (IsNeeded : ℕ → Type 0) (kinds : List (Kind S)) : Type 0 where
  pub lines : (rel : ℕ) → IsNeeded rel → IsSome (line_for rel schema.sources)
  pub untold : (rel : ℕ) (line : SourceLine) → IsNeeded rel → line_for rel schema.sources ≡ Some line →
      AtKind kinds line.kind (λ source. (columns : List (List ℕ)) → (seen source).offer rel columns line.locator ≡ None)

-- ---- commands

-- What standard error took begins with the text, where that is told.
abbrev pub ErrBegins : List ℕ → Moment → Moment → Type 0
ErrBegins text before after = (rest : List ℕ) × TookAll before.err after.err (text ++ rest)

-- So it does with the text of the plan and of what is said of each select.
abbrev pub IsPrinted : List Chosen → Plan → Moment → Moment → Type 0
IsPrinted entries plan before after = ErrBegins (planned_text entries plan) before after

-- The texts of a schema and of a statement over it are given.
pub record TextsAreGiven (told : Option Contents) (name query : List ℕ) : Type 0 where
  pub schema : Schema
  pub statement : Statement
  pub schema_given : SchemaIsGiven told name schema
  pub query_given : QueryIsGiven told query schema statement

-- For `run`: the texts are given, and the plan for the statement that was printed can be carried out.
pub record RunIsSupplied {S : Type 0} (seen : S → Seen) (name query : List ℕ) (firings search calls : ℕ) (verify : Bool)
    (before after : Moment) (old new : List (Lane S)) : Type 0 where
  pub texts : TextsAreGiven before.files name query
  pub execution : (plan : Plan) (entries : List Chosen) → IsPlanned texts.schema texts.statement firings search plan entries →
      IsPrinted entries plan before after → CanCarryOut seen texts.schema calls verify old new plan

-- The texts of a schema and of a batch of statements over it are given.
pub record BatchTextsAreGiven (told : Option Contents) (name queries : List ℕ) : Type 0 where
  pub schema : Schema
  pub statements : List Statement
  pub schema_given : SchemaIsGiven told name schema
  pub batch_given : BatchIsGiven told queries schema statements

-- Plans for the statements that were printed can be executed together.
abbrev pub CanBatch : {S : Type 0} → (S → Seen) → (firings search calls : ℕ) → Moment → Moment → List (Lane S) → List (Lane S) →
    Schema → List Statement → Type 0
CanBatch seen firings search calls before after old new schema statements = (plans : List Told) →
    AllZip (λ statement (its : Told). IsPlanned schema statement firings search its.plan its.entries) statements plans →
    ErrBegins (told_text 1 plans) before after → CanExecuteAll seen schema (plans_of plans) calls old new

-- For `batch`: the texts are given, and the plans for the statements that were printed can be executed together.
pub record BatchIsSupplied {S : Type 0} (seen : S → Seen) (name queries : List ℕ) (firings search calls : ℕ)
    (before after : Moment) (old new : List (Lane S)) : Type 0 where
  pub texts : BatchTextsAreGiven before.files name queries
  pub execution : CanBatch seen firings search calls before after old new texts.schema texts.statements

-- For `exec`: the texts are given, and the plan is lawful and can be executed.
pub record ExecIsSupplied {S : Type 0} (seen : S → Seen) (name its : List ℕ) (calls : ℕ)
    (told : Option Contents) (old new : List (Lane S)) : Type 0 where
  pub schema : Schema
  pub plan : Plan
  pub schema_given : SchemaIsGiven told name schema
  pub plan_given : PlanIsGiven told its plan
  pub lawful : MayRun schema plan
  pub execution : CanExecute seen schema plan calls old new

-- For `check`: the texts of a schema, of a statement over it and of a plan are given.
pub record CheckIsSupplied (told : Option Contents) (name query its : List ℕ) : Type 0 where
  pub texts : TextsAreGiven told name query
  pub plan : Plan
  pub plan_given : PlanIsGiven told its plan

-- For `verify`: the text is given, and the rules can be tested.
pub record VerifyIsSupplied {S : Type 0} (seen : S → Seen) (name : List ℕ) (told : Option Contents) (old new : List (Lane S)) : Type 0 where
  pub schema : Schema
  pub schema_given : SchemaIsGiven told name schema
  pub tests : CanTest seen schema old new

-- For `crawl`: the text is given, and the reachable relations can be crawled.
pub record CrawlIsSupplied {S : Type 0} (seen : S → Seen) (name : List ℕ) (calls : ℕ)
    (told : Option Contents) (old new : List (Lane S)) : Type 0 where
  pub schema : Schema
  pub schema_given : SchemaIsGiven told name schema
  pub crawl : CanCrawl seen schema calls old new

-- For `reach`: the texts are given, and the reachable relations can be crawled.
pub record ReachIsSupplied {S : Type 0} (seen : S → Seen) (name query : List ℕ) (calls : ℕ)
    (told : Option Contents) (old new : List (Lane S)) : Type 0 where
  pub texts : TextsAreGiven told name query
  pub crawl : CanCrawl seen texts.schema calls old new

-- For `world`: its texts are those of a schema and of a statement over it, and the plan for the statement that was printed can be executed.
pub record WorldIsSupplied {S : Type 0} (seen : S → Seen) (size : ℕ) (before after : Moment) (old new : List (Lane S)) : Type 0 where
  pub schema : Schema
  pub statement : Statement
  pub schema_is : IsSchemaText (schema_text size) schema
  pub statement_is : IsStatementText schema query_text statement
  pub execution : (plan : Plan) (entries : List Chosen) → IsPlanned schema statement FIRINGS UNITS plan entries →
      IsPrinted entries plan before after → CanExecute seen schema plan CALLS old new

-- What a command needs is supplied, on the lanes that it uses.
abbrev pub IsSupplied : {S : Type 0} → (S → Seen) → Command → Moment → Moment → List (Lane S) → List (Lane S) → Type 0
IsSupplied seen Help before after old new = Unit {0}
IsSupplied seen (Print name) before after old new = (schema : Schema) × SchemaIsGiven before.files name schema
IsSupplied seen (Explain name query firings search) before after old new = TextsAreGiven before.files name query
IsSupplied seen (Run name query firings search workers calls verify) before after old new =
    RunIsSupplied seen name query firings search calls verify before after (take workers old) (take workers new)
IsSupplied seen (Batch name queries firings search workers calls) before after old new =
    BatchIsSupplied seen name queries firings search calls before after (take workers old) (take workers new)
IsSupplied seen (Exec name plan workers calls) before after old new = ExecIsSupplied seen name plan calls before.files
    (take workers old) (take workers new)
IsSupplied seen (Check name query plan firings) before after old new = CheckIsSupplied before.files name query plan
IsSupplied seen (Verify name) before after old new = VerifyIsSupplied seen name before.files old new
IsSupplied seen (Crawl name workers calls) before after old new = CrawlIsSupplied seen name calls before.files (take workers old) (take workers new)
IsSupplied seen (Reach name query workers calls) before after old new = ReachIsSupplied seen name query calls before.files
    (take workers old) (take workers new)
IsSupplied seen (World size workers) before after old new = WorldIsSupplied seen size before after (take workers old) (take workers new)
