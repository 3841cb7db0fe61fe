-- What asking the requests of a step comes to.
use Rattle.std.proofs.Common.{◌≡◌, ℕ, ◌<◌, ◌^◌, List, length, Option, subst, arith}
use Rattle.std.specs.Prelude.{Contains, Result, Ok, Err, IfOk}
use Rattle.std.proofs.lemmas.Option.{slice_get_within}
use Rattle.lists.proofs.Members.{contains_got, got_below}
use Rattle.meaning.specs.declared.types.Fact.{Fact}
use Rattle.meaning.specs.declared.types.Branch.{Branch}
use Rattle.meaning.specs.declared.types.Plan.{Plan}
use Rattle.access_schema.specs.declared.schema.Schema.{Schema}
use Rattle.source_trait.specs.Asking.{Seen}
use Rattle.source_trait.specs.declared.lanes.Lane.{Lane}
use Rattle.middleware.specs.PlanSources.{IsAccessed}
use Rattle.middleware.specs.Branches.{AreAskable, IsAskable}
use Rattle.middleware.specs.LaneAsking.{LanesHoldRelation}
use Rattle.middleware.specs.LaneBranches.{OnEach, LanesHoldPlan}
use Rattle.middleware.proofs.Laning.{wanted_length}
use Rattle.middleware.proofs.Planning.{accessed_by}
use Rattle.middleware.proofs.Steps.{len_requests}
use Rattle.shared_rounds.specs.SharedRounds.{Turn, turns_of}
use Rattle.shared_rounds.proofs.Counting.{is_nth}
use Rattle.plan_course.specs.Courses.{CanNumber, IsAt, IsBefore}
use Rattle.plan_course.specs.Turns.{IsPending}
use Rattle.plan_course.specs.declared.course.Course.{Course}
use Rattle.plan_course.specs.declared.turns.Pending.{Pending}
use Rattle.plan_execution.specs.Rounding.{asks_in}

-- ---- the step that asks

module _ (schema : Schema) (plan : Plan) (course : Course) (pending : Pending)
    (is : IsPending schema plan course pending) where
  step_accessed : IsAccessed schema plan pending.method.rel
  step_accessed = accessed_by schema plan is.its is.asks.step pending.method
      (contains_got plan.branches course.branch is.its is.of_plan)
      (contains_got is.its.steps course.step is.asks.step is.asks.of_branch) is.asks.named

  -- its method may be asked
  pub may_ask : {S : Type 0} (seen : S → Seen) (lanes : List (Lane S))
      → ((its : Branch) → Contains plan.branches its → OnEach lanes (λ kinds. AreAskable seen schema kinds its.steps))
      → OnEach lanes (λ kinds. IsAskable seen schema kinds pending.method)
  may_ask seen lanes askable lane there =
      askable is.its (contains_got plan.branches course.branch is.its is.of_plan) lane there is.asks.step pending.method
      (contains_got is.its.steps course.step is.asks.step is.asks.of_branch) is.asks.named

  pub relation_held : {S : Type 0} (seen : S → Seen) (lanes : List (Lane S)) (instance : List Fact)
      → LanesHoldPlan seen schema plan lanes instance
      → LanesHoldRelation seen schema pending.method.rel lanes instance
  relation_held seen lanes instance holds line line_is lane among = holds lane among pending.method.rel line
      step_accessed line_is

  -- each of its requests has a value for each input
  pub wide : (values : List (List ℕ)) → Contains pending.wanted.requests values → length values ≡ length pending.method.inputs
  wide values among = wanted_length pending.places pending.method.inputs pending.wanted.rows pending.wanted.requests values
      is.asks.wanted among

  -- and its numbers fit
  pub numbers_fit : CanNumber plan → (pending.branch < 2 ^ 32) × (pending.step < 2 ^ 32)
  numbers_fit can =
      let branch = slice_get_within plan.branches course.branch is.its is.of_plan in
      let step = slice_get_within is.its.steps course.step is.asks.step is.asks.of_branch in
      let few = can.0 in
      let short = can.1 is.its (contains_got plan.branches course.branch is.its is.of_plan) in
      let b = is.asks.branch_is in
      let s = is.asks.step_is in
      (omega (arith, branch, few, b), omega (arith, step, short, s))

-- a course before a step is not behind all branches
pub not_done : (plan : Plan) (course : Course) (n : ℕ) → IsAt plan n course → n < length (turns_of plan)
    → course.branch ≡ length plan.branches → ⊥
not_done plan course n at less past =
    let (turn, got) = got_below (turns_of plan) n less in
    let before = subst (λ (o : Option Turn). IsBefore plan o course) got at.before in
    let nth = is_nth plan n turn got in
    let within = slice_get_within plan.branches turn.branch nth.branch nth.of_plan in
    let same = before.0 in
    omega (arith, past, within, same)

pub asks_long : (pending : Pending) → length (asks_in pending) ≡ length pending.wanted.requests
asks_long pending = len_requests pending.method.rel pending.method.inputs pending.wanted.requests

-- both hold of what comes where there was memory
pub both_ok : {X E : Type 0} {P Q R : X → Type 0} (result : Result X E) → ((x : X) → P x → Q x → R x) → IfOk result P
    → IfOk result Q → IfOk result R
both_ok (Ok x) both p q = both x p q
both_ok (Err e) both p q = tt
