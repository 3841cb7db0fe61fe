use Rattle.explain.proofs.TextLaws.{text_only}
use Rattle.explain.proofs.read.read_witness.Goals as goal

pub returns-in-Ok-clause-only : goal.returns-in-Ok-clause-only
returns-in-Ok-clause-only c = λ pair is.
    text_only c.args.schema.now c.args.bytes.now c.text_witness.result (rw c.in-Ok.ensures.text at c.text_witness.ensures.read) (rw c.in-Ok.ensures.text at c.text_witness.ensures.fault) pair is
