use Rattle.std.proofs.Common.{◌↔◌, List, sym, subst}
use Rattle.std.specs.Prelude.{Contains}
use Rattle.std.proofs.lemmas.Result.{IfOk-weaker}
use Rattle.meaning.specs.Values.{Row}
use Rattle.meaning.specs.Answers.{AnswersSelect}
use Rattle.access_schema.specs.Meaning.{meaning_of}
use Rattle.sql_conjunctive.proofs.Rowing.{never_rows, form_rows}
use Rattle.sql_conjunctive.proofs.rows.select_rows.Goals as goal

pub returns-in-Never : goal.returns-in-Never
returns-in-Never c = λ facts is are row. subst (λ (rs : List Row). Contains rs row ↔ AnswersSelect c.args.select.now facts row) (sym c.new.ensures.items)
    (never_rows (meaning_of c.args.schema.now) c.args.select.now c.in_ok-form.form c.in-Never.is c.in_ok-form.ensures.answers facts is row)

pub returns-in-Query : goal.returns-in-Query
returns-in-Query c = IfOk-weaker c.query_rows.result _ _
    (λ rows exact facts is are. form_rows (meaning_of c.args.schema.now) c.args.select.now c.in_ok-form.form c.in-Query.query rows.items c.in-Query.is c.in_ok-form.ensures.answers facts is (exact facts are))
    c.query_rows.ensures
