use Rattle.integer_laws.proofs.Examples.{word_names_a_word}
use Rattle.integer_laws.proofs.worked.word_names_a_word.Goals as goal

pub returns : goal.returns
returns c = word_names_a_word
