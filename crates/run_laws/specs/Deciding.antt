-- What is decided of the statement of a world.
use Rattle.std.specs.Prelude.{◌≡◌, [], ◌∷◌}
use Rattle.meaning.specs.declared.types.Branch.{Branch}
use Rattle.meaning.specs.declared.types.Plan.{Plan}
use Rattle.meaning.specs.Costs.{IsCost, IsRival}
use Rattle.findings.specs.declared.least.Least.TheVariants.{Shown}
use Rattle.findings.specs.declared.decision.Chosen.TheVariants as chosen
use Rattle.findings.specs.declared.decision.Decision.{Decision}
use Rattle.findings.specs.declared.decision.Decision.TheVariants as decision
use Rattle.world_laws.specs.World.{world_select, world_statement}
use Rattle.world_laws.specs.Plan.{world}

-- The plan has one branch, which is lawful, answers the statement wherever the rules are met, and costs 8.
pub record HasOneBranch (plan : Plan) : Type 0 where
  pub branch : Branch
  pub only : plan.branches ≡ branch ∷ []
  pub rival : IsRival world [] world_statement world_select branch
  pub cost : IsCost world branch 8

-- A plan is decided, with one branch that costs 8, and it is said that none costs less.
abbrev pub IsLeastPlan : Decision → Type 0
IsLeastPlan (decision.Plan plan entries) = HasOneBranch plan × (entries ≡ chosen.Branch 8 Shown ∷ [])
IsLeastPlan (decision.NoPlan pair) = ⊥
IsLeastPlan (decision.Undecided select log) = ⊥
