use Rattle.batch_laws.proofs.Answered.{one_answer}
use Rattle.batch_laws.proofs.laws.one_query_has_one_answer.Goals as goal

pub returns : goal.returns
returns g c = λ schema_name query_name files run batch schema instance ran ran_all is model of_run of_batch.
    one_answer g.S.Source.seen schema_name query_name files run batch schema instance is model of_run of_batch ran
    ran_all
