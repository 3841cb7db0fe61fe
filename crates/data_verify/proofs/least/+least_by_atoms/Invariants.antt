use Rattle.std.proofs.Common.{length}
use Rattle.data_verify.proofs.least.+least_by_atoms.Given as goal

abbrev pub decreases-least_by_atoms : goal.decreases-least_by_atoms
decreases-least_by_atoms l = length l.rule.now.body
