use Rattle.explain.proofs.PrintLaws.{printed_again}
use Rattle.explain.proofs.laws.printed_refutations_are_read.Goals as goal

pub returns : goal.returns
returns c = printed_again
