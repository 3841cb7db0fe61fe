use Rattle.meaning_laws.proofs.Trimming.{match_trim}
use Rattle.meaning_laws.proofs.laws.match_trims.Goals as goal

pub returns : goal.returns
returns c = match_trim
