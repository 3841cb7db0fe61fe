use Rattle.plan_extract.proofs.ExposedAtoms.{is_branch_of}
use Rattle.plan_extract.proofs.laws.exposed_atoms_answer.Goals as goal

pub returns : goal.returns
returns c = λ schema constants query exposures well fits have exposing whole. is_branch_of schema constants query exposures well fits have exposing whole
