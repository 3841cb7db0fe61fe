-- A plan with few steps is short enough to be executed.
use Rattle.std.proofs.Common.{◌≤◌, List, [], ◌∷◌, length, inl, inr, subst, arith}
use Rattle.std.specs.Prelude.{Contains}
use Rattle.std.specs.List.{AllByRecursion}
use Rattle.lists.proofs.Members.{contains_cases}
use Rattle.meaning.specs.declared.types.Branch.{Branch}
use Rattle.meaning.specs.declared.types.Plan.{Plan}
use Rattle.plan_form.specs.Fitting.{HasFewSteps}
use Rattle.command_io.specs.Executing.{IsShort}

each_few : (branches : List Branch) → AllByRecursion (λ branch. length branch.steps ≤ 1048576) branches →
    (branch : Branch) → Contains branches branch → length branch.steps ≤ 1048576
each_few [] few branch (k, l, e) = absurd (omega (arith, l))
each_few (first ∷ branches) few branch among = elim (contains_cases first branches branch among) [
  | inl same ↦ let P : Branch → Type 0 = λ b. length b.steps ≤ 1048576 in subst P same few.0
  | inr later ↦ each_few branches few.1 branch later
]

-- a plan with few steps is short
pub short : (plan : Plan) → HasFewSteps plan → IsShort plan
short plan few = record {
  branches = omega (arith, few.branches);
  steps = λ branch among. let within = each_few plan.branches few.steps branch among in omega (arith, within);
}
