use Rattle.meaning_laws.proofs.Monotone.{rows_grow_lem}
use Rattle.meaning_laws.proofs.laws.rows_grow.Goals as goal

pub returns : goal.returns
returns c = rows_grow_lem
