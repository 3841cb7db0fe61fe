use Rattle.integer_laws.proofs.Examples.{word_is_not_sorted}
use Rattle.integer_laws.proofs.worked.word_is_not_sorted.Goals as goal

pub returns : goal.returns
returns c = word_is_not_sorted
