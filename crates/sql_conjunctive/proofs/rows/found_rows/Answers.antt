use Rattle.std.proofs.lemmas.Result.{IfOk-weaker}
use Rattle.sql_conjunctive.proofs.rows.found_rows.Goals as goal

pub returns : goal.returns
returns c = IfOk-weaker c.all_rows.result _ _ (λ rows are. are c.args.instance.now c.requires.instance c.in_ok-store.ensures) c.all_rows.ensures
