-- Where the status of a command that decides is exact, and what it then says.
use Rattle.std.specs.Prelude.{ℕ, true, List, Contains, Option}
use Rattle.meaning.specs.declared.types.Plan.{Plan}
use Rattle.meaning.specs.declared.types.Statement.{Statement}
use Rattle.access_schema.specs.declared.schema.Schema.{Schema}
use Rattle.proof_search.specs.Plans.{HasNoPlan}
use Rattle.command_io.specs.Inputs.{Contents}
use Rattle.command_words.specs.Words.{Command}
use Rattle.command_words.specs.Words.Command.{Explain, Run, Batch, Check}
use Rattle.pdq_core.specs.Complete.{TextsAreGiven, BatchTextsAreGiven, CheckIsSupplied}
use Rattle.pdq_core.specs.Statuses.{RunsOn, IsWrong, FiresOn}

-- The texts of a schema and of a statement over it are given, and this is so of both.
pub record GivenAs (told : Option Contents) (name query : List ℕ) (P : Schema → Statement → Type 0) : Type 0 where
  pub texts : TextsAreGiven told name query
  pub so : P texts.schema texts.statement

-- The texts of a schema and of a batch of statements over it are given, and this is so of both.
pub record GivenAll (told : Option Contents) (name queries : List ℕ) (P : Schema → List Statement → Type 0) : Type 0 where
  pub texts : BatchTextsAreGiven told name queries
  pub so : P texts.schema texts.statements

-- This is so of one of the statements.
abbrev pub SomeIs : (Schema → Statement → Type 0) → Schema → List Statement → Type 0
SomeIs P schema statements = (statement : Statement) × Contains statements statement × P schema statement

-- The texts of a schema, of a statement over it and of a plan are given, and this is so of the three.
pub record GivenWith (told : Option Contents) (name query its : List ℕ) (P : Schema → Statement → Plan → Type 0) : Type 0 where
  pub given : CheckIsSupplied told name query its
  pub so : P given.texts.schema given.texts.statement given.plan

-- The texts are given, and no run is longer than the firings: of the commands that decide statements no ordered run from a select, and of the
-- one that judges a plan no base run from a frozen select or branch. It is said of no other command.
abbrev pub HasNoLongRun : Command → Option Contents → Type 0
HasNoLongRun (Explain name query firings search) told = GivenAs told name query (λ schema statement. RunsOn firings schema statement → ⊥)
HasNoLongRun (Run name query firings search workers calls verify) told = GivenAs told name query
    (λ schema statement. RunsOn firings schema statement → ⊥)
HasNoLongRun (Batch name queries firings search workers calls) told = GivenAll told name queries
    (λ schema statements. SomeIs (RunsOn firings) schema statements → ⊥)
HasNoLongRun (Check name query plan firings) told = GivenWith told name query plan (λ schema statement its. FiresOn firings schema statement its → ⊥)
HasNoLongRun _ told = ⊥

-- The command answers no for no other cause than that: it is not `run` with the rules tested first.
abbrev pub DecidesAlone : Command → Type 0
DecidesAlone (Run name query firings search workers calls true) = ⊥
DecidesAlone _ = Unit {0}

-- No lawful plan is equivalent to the statement that is given, or to one of those that are given, on every instance of
-- integers that meets the rules; or the plan that is given is not lawful, or not equivalent to it on these.
abbrev pub HasNone : Command → Option Contents → Type 0
HasNone (Explain name query firings search) told = GivenAs told name query HasNoPlan
HasNone (Run name query firings search workers calls verify) told = GivenAs told name query HasNoPlan
HasNone (Batch name queries firings search workers calls) told = GivenAll told name queries (SomeIs HasNoPlan)
HasNone (Check name query plan firings) told = GivenWith told name query plan IsWrong
HasNone _ told = ⊥
