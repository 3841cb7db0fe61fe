-- What the plans of a batch want in a round, and what the rounds before leave for it.
use Rattle.std.specs.Prelude.{◌≡◌, ◌+◌, ◌++◌, ℕ, List, Contains, IsSome, length, map}
use Rattle.meaning.specs.declared.types.Plan.{Plan}
use Rattle.meaning.specs.declared.types.Request.{Request}
use Rattle.meaning.specs.Search.{AreDistinct}
use Rattle.access_schema.specs.declared.schema.Schema.{Schema}
use Rattle.access_schema.specs.Meaning.{meaning_of}
use Rattle.source_trait.specs.declared.work.Ask.{Ask}
use Rattle.middleware.specs.PlanSources.{line_for}
use Rattle.middleware.specs.LaneRounds.{HaveTheirKinds}
use Rattle.request_rounds.specs.declared.rounds.Turned.{Turned}
use Rattle.shared_rounds.specs.SharedRounds.{wanted_in}
use Rattle.shared_rounds.specs.Books.{AreNumbers, IsBook, asked_in, with_asked}
use Rattle.shared_rounds.specs.declared.book.Book.{Book}
use Rattle.plan_course.specs.Courses.{AreReadyBranches, CanNumber, IsAt}
use Rattle.plan_course.specs.Turns.{asks_of}
use Rattle.plan_batches.specs.Batching.{AreOfPlans, NeedsOf}
use Rattle.plan_batches.specs.Each.{Both, Each}
use Rattle.plan_batches.specs.Members.{Wants}
use Rattle.plan_batches.specs.declared.member.Member.{Member}
use Rattle.plan_batches.specs.declared.member.Going.{Going}
use Rattle.plan_batches.specs.declared.round.Noted.{Noted}
use Rattle.plan_batches.specs.declared.round.Progress.{Progress}

-- each plan is ready, and its branches and steps can be numbered
abbrev pub AreReadyPlans : Schema → List Plan → Type 0
AreReadyPlans schema plans = (plan : Plan) → Contains plans plan → AreReadyBranches (meaning_of schema) plan × CanNumber plan

-- the plan's course is behind its first n steps
abbrev pub MemberAt : ℕ → Plan → Member → Type 0
MemberAt n plan member = IsAt plan n member.course

-- the requests that the plans want in a round, plan by plan
abbrev pub turns_by : List Going → List (List Request)
turns_by goings = map (λ going. asks_of going.next) goings

-- the numbers are those of the requests that a plan wants
abbrev pub AreItsNumbers : List Request → Going → Type 0
AreItsNumbers asked going = AreNumbers asked (asks_of going.next) going.numbers.items

-- What the plans of a batch want in a round, noted in the book.
pub record TurnsNoted (schema : Schema) (plans : List Plan) (members : List Member) (old new : Book) (goings : List Going) : Type 0 where
  pub wants : Each (Wants schema) plans members goings
  pub is_book : IsBook new
  pub asked : asked_in new.asked.items ≡ with_asked (asked_in old.asked.items) (wanted_in (turns_by goings))
  pub are : (going : Going) → Contains goings going → AreItsNumbers (asked_in new.asked.items) going
  pub kinds : HaveTheirKinds schema old.asked.items → HaveTheirKinds schema new.asked.items
  pub onward : (more : List Ask) × (new.asked.items ≡ old.asked.items ++ more)

module _ (schema : Schema) (plans : List Plan) where
  -- What n rounds leave for the next one, whatever the lanes hold.
  pub record IsStanding (n : ℕ) (progress : Progress) : Type 0 where
    pub is_book : IsBook progress.book
    pub distinct : AreDistinct (asked_in progress.book.asked.items)
    pub kinds : HaveTheirKinds schema progress.book.asked.items
    pub of_plans : AreOfPlans schema plans (asked_in progress.book.asked.items)
    pub kept : length progress.kept ≡ length progress.book.asked.items
    pub members : Both (MemberAt n) plans progress.members.items

  -- the plans can say what they want in the next round
  pub record MayNote (progress : Progress) : Type 0 where
    pub ready : AreReadyPlans schema plans
    pub standing : (n : ℕ) × IsStanding n progress
    pub lines : (rel : ℕ) → NeedsOf schema plans rel → IsSome (line_for rel schema.sources)

  -- What the next round wants, noted behind the requests of the rounds before.
  pub record NotesRound (progress : Progress) (turned : Turned Noted) : Type 0 where
    pub noted : TurnsNoted schema plans progress.members.items progress.book turned.what.book turned.what.goings.items
    pub kept : turned.what.kept ≡ progress.kept
    pub made : turned.what.made ≡ length progress.book.asked.items
    pub count : length turned.what.book.asked.items ≡ turned.what.made + turned.wanted
