use Rattle.meaning_laws.proofs.Judging.{separated}
use Rattle.meaning_laws.proofs.laws.separated.Goals as goal

pub returns : goal.returns
returns c = separated
