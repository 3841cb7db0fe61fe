use Rattle.meaning_laws.proofs.Renaming.{naming_exists}
use Rattle.meaning_laws.proofs.laws.naming_exists.Goals as goal

pub returns : goal.returns
returns c = naming_exists
