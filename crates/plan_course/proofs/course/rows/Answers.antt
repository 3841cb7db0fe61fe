use Rattle.std.proofs.lemmas.Result.{IfOk-weaker}
use Rattle.plan_course.proofs.Standing.{all_rows}
use Rattle.plan_course.proofs.course.rows.Goals as goal

pub returns-clause-all : goal.returns-clause-all
returns-clause-all c = IfOk-weaker c.ascending_distinct.result _ _
    (λ rows same schema facts plan n is over k. all_rows schema facts plan c.args.course n is over k rows same)
    c.ascending_distinct.ensures.same
