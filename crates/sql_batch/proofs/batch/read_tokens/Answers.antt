use Rattle.std.proofs.Common.{ℕ, List, ◌∙◌, subst}
use Rattle.std.specs.Prelude.{IfErr}
use Rattle.sql_batch.proofs.Answering.{FaultOrMemory, as_fault}
use Rattle.sql_batch.proofs.batch.read_tokens.Goals as goal

pub returns-in-Ok-clause-fault : goal.returns-in-Ok-clause-fault
returns-in-Ok-clause-fault c =
    as_fault c.args.schema.now c.args.text.now c.args.tokens.now c.as_slice.result.now c.read_parts.result c.requires.are (c.as_slice.ensures ∙ c.in-Ok.ensures.parts)
    (subst (λ (bs : List ℕ). IfErr c.read_parts.result (FaultOrMemory c.args.schema.now bs c.as_slice.result.now)) c.as_bytes.ensures.value c.read_parts.ensures.fault)
