use Rattle.data_verify.proofs.Held.{code_all}
use Rattle.data_verify.proofs.row_key.key_code.Goals as goal

pub returns : goal.returns
returns c = code_all c.args.terms.now c.args.row.now c.args.variables.now c.loop-variable.variable-index c.loop-variable.code c.loop-variable-test.false c.loop-variable.invariant
