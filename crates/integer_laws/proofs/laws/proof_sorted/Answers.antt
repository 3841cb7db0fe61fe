use Rattle.integer_laws.proofs.Firings.{opening_sorted, proof_sorted}
use Rattle.integer_laws.proofs.laws.proof_sorted.Goals as goal

pub returns-clause-opening : goal.returns-clause-opening
returns-clause-opening c = opening_sorted

pub returns-clause-run : goal.returns-clause-run
returns-clause-run c = proof_sorted
