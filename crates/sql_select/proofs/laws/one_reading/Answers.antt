use Rattle.sql_select.proofs.Complete.{one_reading}
use Rattle.sql_select.proofs.laws.one_reading.Goals as goal

pub returns : goal.returns
returns c = one_reading
