use Rattle.integer_laws.proofs.Examples.{word_names_no_integer}
use Rattle.integer_laws.proofs.worked.word_names_no_integer.Goals as goal

pub returns : goal.returns
returns c = word_names_no_integer
