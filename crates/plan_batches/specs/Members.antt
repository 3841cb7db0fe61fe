-- One plan of a batch: where it begins, what it wants in a round, what it makes of the answers, and what it gives at the end.
use Rattle.std.specs.Prelude.{◌≡◌, ◌↔◌, ◌+◌, ◌≤◌, ◌++◌, ℕ, List, [], Contains, IsSome, length, slice_get}
use Rattle.std.specs.List.Sorted.{IsStrictlySortedBy}
use Rattle.meaning.specs.declared.types.Fact.{Fact}
use Rattle.meaning.specs.declared.types.Plan.{Plan}
use Rattle.meaning.specs.declared.types.Request.{Request}
use Rattle.meaning.specs.declared.types.SchemaParts.{SchemaParts}
use Rattle.meaning.specs.Plans.{IsWellFormed}
use Rattle.meaning.specs.Rows.{IsRow}
use Rattle.meaning.specs.Search.{AreDistinct}
use Rattle.access_schema.specs.declared.schema.Schema.{Schema}
use Rattle.access_schema.specs.Meaning.{meaning_of}
use Rattle.row_text.specs.RowText.{row_cmp}
use Rattle.source_trait.specs.Asking.{RowList}
use Rattle.source_trait.specs.declared.work.Ask.{Ask}
use Rattle.middleware.specs.PlanSources.{line_for}
use Rattle.middleware.specs.LaneRounds.{HaveTheirKinds}
use Rattle.middleware.specs.declared.fault.Run.{Run}
use Rattle.shared_rounds.specs.SharedRounds.{IsTurn, turns_of}
use Rattle.shared_rounds.specs.Books.{AreNumbers, IsBook, asked_in, with_asked}
use Rattle.shared_rounds.specs.declared.book.Book.{Book}
use Rattle.plan_course.specs.Courses.{AreReadyBranches, IsAt, Knows}
use Rattle.plan_course.specs.Turns.{AreOfTurn, IsNext, asks_of}
use Rattle.plan_course.specs.declared.course.Course.{Course}
use Rattle.plan_course.specs.declared.turns.Next.{Next}
use Rattle.plan_course.specs.declared.turns.Next.TheVariants as next
use Rattle.plan_batches.specs.Kept.{AreAnswered}
use Rattle.plan_batches.specs.declared.member.Member.{Member}
use Rattle.plan_batches.specs.declared.member.Going.{Going}

-- before the first round, where no request was wanted
pub record Begins (plan : Plan) (member : Member) : Type 0 where
  pub wanted : member.wanted.items ≡ []
  pub at : IsAt plan 0 member.course
  pub knows : (schema : SchemaParts) (facts : List Fact) → IsWellFormed schema → AreReadyBranches schema plan → Knows schema facts plan member.course

-- the relation that is asked has a source line
abbrev pub HasLine : Schema → Next → Type 0
HasLine schema (next.Wants pending) = IsSome (line_for pending.method.rel schema.sources)
HasLine schema (next.Done course) = Unit {0}

-- The requests were noted, each for a source of the kind of its relation's source line, and these are their numbers.
pub record HasNoted (schema : Schema) (requests : List Request) (old new : Book) (numbers : List ℕ) : Type 0 where
  pub is_book : IsBook new
  pub asked : asked_in new.asked.items ≡ with_asked (asked_in old.asked.items) requests
  pub are : AreNumbers (asked_in new.asked.items) requests numbers
  pub kinds : HaveTheirKinds schema old.asked.items → HaveTheirKinds schema new.asked.items
  pub onward : (more : List Ask) × (new.asked.items ≡ old.asked.items ++ more)

-- what a plan wants in a round
pub record Wants (schema : Schema) (plan : Plan) (member : Member) (going : Going) : Type 0 where
  pub goes : IsNext schema plan member.course going.next
  pub wanted : going.wanted.items ≡ member.wanted.items
  pub is_turn : (n : ℕ) (facts : List Fact) → IsAt plan n member.course → Knows (meaning_of schema) facts plan member.course
      → IsTurn (meaning_of schema) facts n plan (asks_of going.next)
  pub of_turn : (n : ℕ) → IsAt plan n member.course → AreOfTurn (meaning_of schema) (slice_get (turns_of plan) n) (asks_of going.next)

-- What a course makes of the answers of these numbers among those that are kept.
pub record TakesCourse (kept : List RowList) (plan : Plan) (nx : Next) (numbers : List ℕ) (after : Course) : Type 0 where
  pub at : (schema : Schema) (course : Course) (n : ℕ) → IsNext schema plan course nx → IsAt plan n course → IsAt plan (n + 1) after
  pub knows : (schema : Schema) (course : Course) (facts : List Fact) (asked : List Request) → IsNext schema plan course nx
      → AreReadyBranches (meaning_of schema) plan → Knows (meaning_of schema) facts plan course
      → length asked ≡ length kept → AreNumbers asked (asks_of nx) numbers
      → AreAnswered facts asked kept (asks_of nx) → Knows (meaning_of schema) facts plan after

-- What a plan makes of the answers to what it wanted.
pub record Takes (kept : List RowList) (plan : Plan) (going : Going) (member : Member) : Type 0 where
  pub wanted : member.wanted.items ≡ going.wanted.items ++ going.numbers.items
  pub course : TakesCourse kept plan going.next going.numbers.items member.course

-- the run of a plan that has no step left
pub record Ends (member : Member) (run : Run) : Type 0 where
  pub ascends : IsStrictlySortedBy row_cmp run.rows
  pub all : (schema : SchemaParts) (facts : List Fact) (plan : Plan) (n : ℕ) → IsAt plan n member.course → length (turns_of plan) ≤ n
      → Knows schema facts plan member.course → (row : List (List ℕ)) → Contains run.rows row ↔ IsRow schema plan facts row
  pub distinct : List ℕ
  pub each_once : AreDistinct distinct
  pub same : (number : ℕ) → Contains distinct number ↔ Contains member.wanted.items number
  pub made : run.made ≡ length distinct
