use Rattle.sql_select.proofs.Leading.{reaches}
use Rattle.sql_select.proofs.laws.places_reach_the_end.Goals as goal

pub returns : goal.returns
returns c = reaches
