use Rattle.meaning_laws.proofs.Carrying.{firing_extends}
use Rattle.meaning_laws.proofs.laws.extend_firing.Goals as goal

pub returns : goal.returns
returns c = firing_extends
