use Rattle.meaning_laws.proofs.Trimming.{firings_trim}
use Rattle.meaning_laws.proofs.laws.firings_trim.Goals as goal

pub returns : goal.returns
returns c = firings_trim
