use Rattle.meaning_laws.proofs.Members.{refutes_alike}
use Rattle.meaning_laws.proofs.laws.refutes_alike.Goals as goal

pub returns : goal.returns
returns c = refutes_alike
