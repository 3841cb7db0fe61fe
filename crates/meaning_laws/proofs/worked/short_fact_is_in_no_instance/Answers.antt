use Rattle.meaning_laws.proofs.StaffOffice.{short_is_no_instance}
use Rattle.meaning_laws.proofs.worked.short_fact_is_in_no_instance.Goals as goal

pub returns : goal.returns
returns c = short_is_no_instance
