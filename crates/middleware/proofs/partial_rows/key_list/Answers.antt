use Rattle.middleware.proofs.Parting.{others_of_keys, others_of_rows}
use Rattle.middleware.proofs.partial_rows.key_list.Goals as goal

pub returns-then-len : goal.returns-then-len
returns-then-len c = others_of_keys c.args.places.now c.args.positions.now c.args.answer.now c.args.rows.now _ c.in_ok-of_answer.ensures

pub returns : goal.returns
returns c = others_of_rows c.args.places.now c.args.positions.now c.args.answer.now c.args.rows.now _ c.in_ok-of_rows.ensures
