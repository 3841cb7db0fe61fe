use Rattle.meaning_laws.proofs.Extracted.{extract_sound}
use Rattle.meaning_laws.proofs.laws.extract_sound.Goals as goal

pub returns : goal.returns
returns c = extract_sound
