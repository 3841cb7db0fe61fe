use Rattle.integer_laws.proofs.Examples.{word_is_not_sorted}
use Rattle.integer_laws.proofs.worked.word_is_in_no_sorted_model.Goals as goal

pub returns : goal.returns
returns c = λ model. word_is_not_sorted model.sorted
