use Rattle.std.proofs.Common.{arith}
use Rattle.std.proofs.lemmas.Grind.{common_steps}
use Rattle.access_schema.proofs.Collected.{once_mapped}
use Rattle.access_schema.proofs.wrong_sort.add_atoms.Goals as goal

pub loop-left-preserved : goal.loop-left-preserved
loop-left-preserved c = grind (arith, common_steps, once_mapped)
