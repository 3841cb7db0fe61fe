use Rattle.tgd_reader.proofs.Exactly.{no_fault}
use Rattle.tgd_reader.proofs.laws.schema_texts_have_no_fault.Goals as goal

pub returns : goal.returns
returns c = no_fault
