use Rattle.meaning_laws.proofs.Carrying.{extend_list}
use Rattle.meaning_laws.proofs.laws.extend_list.Goals as goal

pub returns : goal.returns
returns c = extend_list
