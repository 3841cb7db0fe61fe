use Rattle.plan_extract.proofs.AnyOrder.{any_order}
use Rattle.plan_extract.proofs.laws.rows_in_any_order.Goals as goal

pub returns : goal.returns
returns c = λ schema first second head instance row well methods back there known is. any_order schema first second head instance row well methods back there known is
