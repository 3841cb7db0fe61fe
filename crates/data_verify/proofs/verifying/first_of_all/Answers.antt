use Rattle.data_verify.proofs.First.{as_found, as_earlier}
use Rattle.data_verify.proofs.verifying.first_of_all.Goals as goal

pub returns-in-Some : goal.returns-in-Some
returns-in-Some c = as_earlier c.args.instance c.args.schema.now.rules c.args.found c.in-Some.earlier c.requires (rw c.in-Some.is at c.in_ok-earlier.ensures)

pub returns-in-None : goal.returns-in-None
returns-in-None c = as_found c.args.instance c.args.schema.now.rules c.args.found c.requires (rw c.in-None.is at c.in_ok-earlier.ensures)
