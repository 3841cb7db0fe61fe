use Rattle.std.proofs.Common.{[]}
use Rattle.world_laws.specs.World.{world_statement}
use Rattle.world_laws.specs.Plan.{world, world_plan}
use Rattle.meaning_laws.proofs.Monotone.{no_plan_lem}
use Rattle.world_laws.proofs.Read.{world_well_formed}
use Rattle.world_laws.proofs.Paths.{plan_lawful, plan_equivalent, branch_rival, branch_cost}
use Rattle.world_laws.proofs.Counts.{least_cost}
use Rattle.world_laws.proofs.laws.plan_of_a_world.Goals as goal

pub returns : goal.returns
returns c = record {
  lawful = plan_lawful;
  equivalent = plan_equivalent;
  rival = branch_rival;
  cost = branch_cost;
  least = least_cost;
  never_refuted = λ first second row pair. no_plan_lem world [] world_statement first second row world_well_formed pair world_plan plan_lawful plan_equivalent;
}
