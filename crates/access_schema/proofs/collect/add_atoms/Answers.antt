use Rattle.std.proofs.Common.{arith}
use Rattle.std.proofs.lemmas.Grind.{common_steps}
use Rattle.access_schema.proofs.Collected.{once_mapped, once_mapped_over}
use Rattle.access_schema.proofs.collect.add_atoms.Goals as goal

pub returns-then-not-branch-clause-fits : goal.returns-then-not-branch-clause-fits
returns-then-not-branch-clause-fits c = grind (arith, common_steps, once_mapped_over)

pub loop-left-preserved : goal.loop-left-preserved
loop-left-preserved c = grind (arith, common_steps, once_mapped)
