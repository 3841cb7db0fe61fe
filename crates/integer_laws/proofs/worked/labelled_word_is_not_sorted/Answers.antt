use Rattle.integer_laws.proofs.Examples.{labelled_word_is_not_sorted}
use Rattle.integer_laws.proofs.worked.labelled_word_is_not_sorted.Goals as goal

pub returns : goal.returns
returns c = labelled_word_is_not_sorted
