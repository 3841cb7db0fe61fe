use Rattle.meaning_laws.proofs.Example.{parts_stand_in_order}
use Rattle.meaning_laws.proofs.worked.parts_stand_in_order.Goals as goal

pub returns : goal.returns
returns c = parts_stand_in_order
