use Rattle.meaning_laws.proofs.Extracted.{extract_complete}
use Rattle.meaning_laws.proofs.laws.extract_complete.Goals as goal

pub returns : goal.returns
returns c = extract_complete
