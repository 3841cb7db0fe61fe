-- The relations that a plan accesses, by its steps.
use Rattle.std.proofs.Common.{◌≡◌, ⊎_elim, ℕ, ◌<◌, List, [], ◌∷◌, length, ap, arith}
use Rattle.std.specs.Prelude.{Contains}
use Rattle.std.proofs.lemmas.Bool.{cases_lt}
use Rattle.lists.proofs.Members.{contains_cases, contains_got, contains_none, got_below}
use Rattle.meaning.specs.declared.types.Branch.{Branch}
use Rattle.meaning.specs.declared.types.Plan.{Plan}
use Rattle.access_schema.specs.declared.schema.Schema.{Schema}
use Rattle.access_schema.specs.Meaning.{meaning_of}
use Rattle.middleware.specs.PlanSources.{IsAccessed}
use Rattle.middleware.proofs.Planning.{accessed_by}
use Rattle.shared_rounds.specs.SharedRounds.{steps_in, turns_of}
use Rattle.shared_rounds.proofs.Counting.{all_long, is_nth}
use Rattle.plan_course.specs.Courses.{AreReadyBranches}

-- a branch with a step is counted
steps_some : (branches : List Branch) (its : Branch) → Contains branches its → 0 < length its.steps
    → 0 < steps_in branches
steps_some [] its c some = absurd (contains_none its c)
steps_some (b ∷ branches) its c some = ⊎_elim
    (λ e. let long = ap (λ (x : Branch). length x.steps) e in omega (arith, long, some))
    (λ l. let rest = steps_some branches its l some in omega (arith, rest))
    (contains_cases b branches its c)

module _ (schema : Schema) (plan : Plan) where
  -- where a relation is accessed, there is a step
  pub some_turn : (rel : ℕ) → IsAccessed schema plan rel → 0 < length (turns_of plan)
  some_turn rel a =
      let (k, under, is) = a.of_branch in
      let some = steps_some plan.branches a.branch a.of_plan (omega (arith, under)) in
      let long = all_long 0 plan.branches in
      omega (arith, some, long)

  -- and where there is one, a relation is accessed
  pub turn_accesses : AreReadyBranches (meaning_of schema) plan → 0 < length (turns_of plan) → (rel : ℕ)
      × IsAccessed schema plan rel
  turn_accesses ready some =
      let (turn, at) = got_below (turns_of plan) 0 some in
      let nth = is_nth plan 0 turn at in
      let in_plan = contains_got plan.branches turn.branch nth.branch nth.of_plan in
      let step = (ready nth.branch in_plan).steps turn.step turn.its nth.of_branch in (
        step.method.rel,
        accessed_by schema plan nth.branch turn.its step.method in_plan
            (contains_got nth.branch.steps turn.step turn.its nth.of_branch) step.named,
      )

  pub no_turns : AreReadyBranches (meaning_of schema) plan → ((rel : ℕ) → IsAccessed schema plan rel → ⊥)
      → length (turns_of plan) ≡ 0
  no_turns ready none = ⊎_elim
      (λ l. let (rel, a) = turn_accesses ready l in absurd (none rel a))
      (λ l. omega (arith, l))
      (cases_lt 0 (length (turns_of plan)))
