use Rattle.integer_laws.proofs.Forms.{forms_are_sorted}
use Rattle.integer_laws.proofs.laws.forms_are_sorted.Goals as goal

pub returns : goal.returns
returns c = forms_are_sorted
