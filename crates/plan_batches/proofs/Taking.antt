-- One plan of a batch in a round: the source line of what it asks, its answers, and its name where a call fails.
use Rattle.std.proofs.Common.{◌≡◌, ℕ, ◌+◌, ◌<◌, ◌^◌, List, get_or, refl, sym, ◌∙◌, ap, subst}
use Rattle.std.specs.Prelude.{Contains, IfOk, IsSome, Result, Ok, Err}
use Rattle.std.proofs.lemmas.Option.{get_or_from_slice_get}
use Rattle.lists.proofs.Members.{contains_got, contains_none}
use Rattle.meaning.specs.declared.types.Fact.{Fact}
use Rattle.meaning.specs.declared.types.Plan.{Plan}
use Rattle.access_schema.specs.declared.schema.Schema.{Schema}
use Rattle.access_schema.specs.Meaning.{meaning_of}
use Rattle.source_trait.specs.Asking.{RowList}
use Rattle.middleware.specs.LaneAsking.{AnswersFrom}
use Rattle.middleware.specs.PlanSources.{line_for, IsAccessed}
use Rattle.middleware.specs.declared.fault.RunFault.TheVariants as fault
use Rattle.middleware.proofs.Planning.{accessed_by}
use Rattle.shared_rounds.specs.Books.{AreNumbers}
use Rattle.plan_course.specs.Courses.{AreReadyBranches, IsAt, Knows}
use Rattle.plan_course.specs.Turns.{IsNext, IsPending, asks_of}
use Rattle.plan_course.specs.declared.course.Course.{Course}
use Rattle.plan_course.specs.declared.turns.Next.{Next}
use Rattle.plan_course.specs.declared.turns.Next.TheVariants.{Wants as Asks, Done}
use Rattle.plan_course.specs.declared.turns.Pending.{Pending}
use Rattle.plan_course.proofs.Standing.{stays_done}
use Rattle.plan_batches.specs.Kept.{answers_at, AreAnswered}
use Rattle.plan_batches.specs.Members.{HasLine, TakesCourse}
use Rattle.plan_batches.specs.Naming.{CanName, CanNameBy, IsFirstGoing, FailsFirst}
use Rattle.plan_batches.specs.declared.member.Going.{Going}
use Rattle.plan_batches.proofs.Answering.{answers_from}

-- what a plan asks has a source line
pub has_line : (schema : Schema) (plan : Plan) (course : Course) (nx : Next) → IsNext schema plan course nx
    → ((rel : ℕ) → IsAccessed schema plan rel → IsSome (line_for rel schema.sources)) → HasLine schema nx
has_line schema plan course (Asks pending) is lines = lines pending.method.rel
    (accessed_by schema plan is.its is.asks.step pending.method (contains_got plan.branches course.branch is.its is.of_plan)
    (contains_got is.its.steps course.step is.asks.step is.asks.of_branch) is.asks.named)
has_line schema plan course (Done same) is lines = tt

-- the course with its answers
pub took_answers : {E : Type 0} (kept : List RowList) (plan : Plan) (nx : Next) (pending : Pending) → nx ≡ Asks pending → (numbers : List ℕ)
    (answers : List RowList) → answers ≡ answers_at kept numbers → (result : Result Course E)
    → IfOk result (λ next. (schema : Schema) (course : Course) (n : ℕ) → IsPending schema plan course pending → IsAt plan n course → IsAt plan (n + 1) next)
    → IfOk result (λ next. (schema : Schema) (course : Course) (facts : List Fact) → IsPending schema plan course pending
    → AreReadyBranches (meaning_of schema) plan → Knows (meaning_of schema) facts plan course
    → AnswersFrom facts pending.method pending.wanted.requests answers → Knows (meaning_of schema) facts plan next)
    → IfOk result (TakesCourse kept plan nx numbers)
took_answers kept plan nx pending is numbers answers picked (Ok next) at knows = record {
  at = λ schema course n goes at_n. at schema course n (subst (λ (x : Next). IsNext schema plan course x) is goes) at_n;
  knows = λ schema course facts asked goes ready known long are answered.
      knows schema course facts (subst (λ (x : Next). IsNext schema plan course x) is goes) ready known
      (subst (λ (l : List RowList). AnswersFrom facts pending.method pending.wanted.requests l) (sym picked)
      (answers_from facts pending.method pending.wanted.requests asked kept numbers long (subst (λ (x : Next). AreNumbers asked (asks_of x) numbers) is are)
      (subst (λ (x : Next). AreAnswered facts asked kept (asks_of x)) is answered)));
}
took_answers kept plan nx pending is numbers answers picked (Err e) at knows = tt

-- the course of a plan that has no step left
pub took_nothing : (kept : List RowList) (plan : Plan) (nx : Next) (after : Course) → nx ≡ Done after → (numbers : List ℕ) → TakesCourse kept plan nx numbers after
took_nothing kept plan nx after is numbers = record {
  at = λ schema course n goes at_n.
      let done = subst (λ (x : Next). IsNext schema plan course x) is goes in
      subst (λ (x : Course). IsAt plan (n + 1) x) (sym done.0) (stays_done plan n course done.1 at_n);
  knows = λ schema course facts asked goes ready known long are answered.
      let done = subst (λ (x : Next). IsNext schema plan course x) is goes in
      subst (λ (x : Course). Knows (meaning_of schema) facts plan x) (sym done.0) known;
}

-- ---- the first plan that wants a number

module _ (goings : List Going) (names : (going : Going) → Contains goings going → CanName going) (plan number : ℕ) (first : IsFirstGoing goings plan number)
    (d : Going) where
  here : get_or goings plan d ≡ first.going
  here = get_or_from_slice_get goings plan first.going d first.at

  its : CanName first.going
  its = names first.going (contains_got goings plan first.going first.at)

  pub can_name_it : (pending : Pending) → (get_or goings plan d).next ≡ Asks pending → (pending.branch < 2 ^ 32) × (pending.step < 2 ^ 32)
  can_name_it pending is =
      let same : first.going.next ≡ Asks pending = ap (λ (g : Going). g.next) (sym here) ∙ is in
      subst (λ (x : Next). CanNameBy x first.going.numbers.items) same its

  pub fails_first : (pending : Pending) → (get_or goings plan d).next ≡ Asks pending
      → FailsFirst goings number (record { plan = plan; fault = fault.CallFailed pending.branch pending.step })
  fails_first pending is = record {
    first = first;
    pending = pending;
    wants = ap (λ (g : Going). g.next) (sym here) ∙ is;
    fault_is = refl;
  }

  pub wants_it : (course : Course) → (get_or goings plan d).next ≡ Done course → ⊥
  wants_it course is =
      let same : first.going.next ≡ Done course = ap (λ (g : Going). g.next) (sym here) ∙ is in
      let none = subst (λ (x : Next). CanNameBy x first.going.numbers.items) same its in
      contains_none number (subst (λ (l : List ℕ). Contains l number) none first.among)
