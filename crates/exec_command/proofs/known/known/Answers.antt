-- What is kept once has the members of the list.
use Rattle.exec_command.proofs.known.known.Goals as goal

pub returns : goal.returns
returns c = rw c.in_ok-texts.ensures at c.keep_once.ensures
