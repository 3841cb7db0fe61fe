use Rattle.std.proofs.Common.{arith}
use Rattle.std.proofs.lemmas.Grind.{common_steps}
use Rattle.access_schema.proofs.Collected.{once_on}
use Rattle.access_schema.proofs.rules.add_of_rules.Goals as goal

pub loop-left-preserved : goal.loop-left-preserved
loop-left-preserved c = grind (arith, common_steps, once_on)
