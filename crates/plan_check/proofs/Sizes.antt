-- A branch makes at most as many columns as it has places.
use Rattle.std.proofs.Common.{◌≡◌, ℕ, zero, suc, ◌+◌, ◌≤◌, List, [], ◌∷◌, sym, subst, arith}
use Rattle.std.specs.Prelude.{Contains}
use Rattle.meaning.specs.declared.types.Step.{Step}
use Rattle.meaning.specs.declared.types.Branch.{Branch}
use Rattle.meaning.specs.declared.types.Plan.{Plan}
use Rattle.meaning.specs.Plans.{made}
use Rattle.meaning.specs.Judge.{columns_of}
use Rattle.meaning_laws.proofs.Frozen.{made_few}
use Rattle.plan_form.specs.Grammar.{step_places, branch_places, places_of}
use Rattle.rule_pass.specs.declared.pass.TheConstants.{HIGHEST_FIRST_LABEL}
use Rattle.plan_check.specs.Forms.{HasFewColumns}

columns_few : (n : ℕ) (steps : List Step) → columns_of n steps ≤ n + step_places steps
columns_few n [] = omega arith
columns_few n (step ∷ steps) =
    let first = made_few n step.places in
    let rest = columns_few (made n step.places) steps in
    omega arith

branch_few : (branches : List Branch) (branch : Branch) → Contains branches branch → step_places branch.steps ≤ branch_places branches
branch_few [] branch (k, low, at) = absurd (omega arith)
branch_few (b ∷ branches) branch (zero, low, at) =
    subst (λ (x : Branch). step_places x.steps ≤ branch_places (b ∷ branches)) at (omega arith)
branch_few (b ∷ branches) branch (suc k, low, at) =
    let rest = branch_few branches branch (k, omega arith, at) in omega arith

pub few_columns : (plan : Plan) → places_of plan ≤ HIGHEST_FIRST_LABEL → HasFewColumns plan
few_columns plan few branch among =
    let columns = columns_few 0 branch.steps in
    let places = branch_few plan.branches branch among in
    omega arith
