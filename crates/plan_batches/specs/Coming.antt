-- How far a batch has come after some rounds.
use Rattle.std.specs.Prelude.{◌≡◌, ◌↔◌, ◌≤◌, ℕ, List, [], ◌∷◌, Contains, Some, length, slice_get}
use Rattle.meaning.specs.declared.types.Fact.{Fact}
use Rattle.meaning.specs.declared.types.Plan.{Plan}
use Rattle.meaning.specs.declared.types.Request.{Request}
use Rattle.access_schema.specs.declared.schema.Schema.{Schema}
use Rattle.access_schema.specs.Meaning.{meaning_of}
use Rattle.source_trait.specs.Asking.{RowList, Seen, pick}
use Rattle.source_trait.specs.declared.lanes.Lane.{Lane}
use Rattle.source_trait.specs.declared.work.Ask.{Ask}
use Rattle.middleware.specs.LaneAsking.{LanesHoldRelation}
use Rattle.middleware.specs.LaneBranches.{LanesHoldPlan}
use Rattle.shared_rounds.specs.SharedRounds.{Anew, AreRounds}
use Rattle.shared_rounds.specs.Books.{AreNumbers, asked_in}
use Rattle.plan_course.specs.Courses.{Knows}
use Rattle.plan_batches.specs.Batching.{RoundsAsked}
use Rattle.plan_batches.specs.Each.{Both}
use Rattle.plan_batches.specs.Rounding.{IsStanding}
use Rattle.plan_batches.specs.declared.member.Member.{Member}
use Rattle.plan_batches.specs.declared.round.Progress.{Progress}

module _ {S : Type 0} (seen : S → Seen) (schema : Schema) (plans : List Plan) (old : List (Lane S)) where
  -- The requests that one plan wanted in its first n steps, by their numbers, and what it knows where the lanes hold its relations.
  pub record HasWanted (n : ℕ) (asked : List Request) (plan : Plan) (member : Member) : Type 0 where
    pub own : List Request
    pub numbers : AreNumbers asked own member.wanted.items
    pub are : (instance : List Fact) → LanesHoldPlan seen schema plan old instance → AreRounds (meaning_of schema) instance (plan ∷ []) Anew n own
    pub knows : (instance : List Fact) → LanesHoldPlan seen schema plan old instance → Knows (meaning_of schema) instance plan member.course

  -- the answer to each request has just the rows that it asks for, where the lanes hold its relation
  abbrev pub AreKept : List Ask → List RowList → Type 0
  AreKept asks kept = (k : ℕ) (ask : Ask) (rows : RowList) → slice_get asks k ≡ Some ask → slice_get kept k ≡ Some rows → (instance : List Fact)
      → LanesHoldRelation seen schema ask.request.rel old instance
      → (row : List (List ℕ)) → Contains rows row ↔ Contains (pick instance ask.request.rel ask.request.positions ask.request.values) row

  -- n rounds were asked whole, and this is what they left.
  pub record HasCome (cap n : ℕ) (progress : Progress) (new : List (Lane S)) : Type 0 where
    pub standing : IsStanding schema plans n progress
    pub rounds : RoundsAsked seen schema plans n (asked_in progress.book.asked.items) old new
    pub within : length progress.book.asked.items ≤ cap
    pub kept : AreKept progress.book.asked.items progress.kept
    pub members : Both (HasWanted n (asked_in progress.book.asked.items)) plans progress.members.items
