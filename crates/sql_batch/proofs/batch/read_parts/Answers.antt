use Rattle.std.proofs.Common.{sym, ◌∙◌, inr}
use Rattle.sql_batch.proofs.Answering.{few, of_many}
use Rattle.sql_batch.proofs.batch.read_parts.Goals as goal

pub returns-then-are_too_many-clause-fault : goal.returns-then-are_too_many-clause-fault
returns-then-are_too_many-clause-fault c =
    inr (of_many c.args.schema.now c.args.bytes.now c.args.parts.now c.read_queries-read.result c.read_queries-read.ensures.read c.read_queries-read.ensures.fault (sym c.are_too_many.ensures ∙ c.if-are_too_many.true))

pub returns-clause-few : goal.returns-clause-few
returns-clause-few c = few c.args.schema.now c.args.bytes.now c.args.parts.now c.read_queries-read.result c.read_queries-read.ensures.read (sym c.are_too_many.ensures ∙ c.if-are_too_many.false)
