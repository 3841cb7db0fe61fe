use Rattle.meaning_laws.proofs.StaffOffice.{office_is_a_model}
use Rattle.meaning_laws.proofs.worked.office_is_a_model.Goals as goal

pub returns : goal.returns
returns c = office_is_a_model
