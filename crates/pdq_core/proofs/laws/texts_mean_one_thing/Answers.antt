use Rattle.sql_batch.proofs.Unique.{one_batch}
use Rattle.sql_select.proofs.Unique.{one_statement}
use Rattle.pdq_core.proofs.CompleteTexts.{one_schema, one_plan}
use Rattle.pdq_core.proofs.laws.texts_mean_one_thing.Goals as goal

pub returns-clause-schema : goal.returns-clause-schema
returns-clause-schema c = one_schema

pub returns-clause-statement : goal.returns-clause-statement
returns-clause-statement c = one_statement

pub returns-clause-batch : goal.returns-clause-batch
returns-clause-batch c = one_batch

pub returns-clause-plan : goal.returns-clause-plan
returns-clause-plan c = one_plan
