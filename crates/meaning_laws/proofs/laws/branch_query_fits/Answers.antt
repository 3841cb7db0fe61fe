use Rattle.meaning_laws.proofs.Frozen.{branch_query_fits}
use Rattle.meaning_laws.proofs.laws.branch_query_fits.Goals as goal

pub returns : goal.returns
returns c = λ schema constants branch query well lawful is. branch_query_fits schema well constants branch query lawful is
