use Rattle.meaning_laws.proofs.Choosing.{select_sound}
use Rattle.meaning_laws.proofs.laws.select_sound.Goals as goal

pub returns : goal.returns
returns c = select_sound
