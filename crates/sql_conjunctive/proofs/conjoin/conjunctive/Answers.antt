use Rattle.std.proofs.Common.{◌↔◌, List, subst, sym}
use Rattle.std.proofs.lemmas.Result.{IfOk-weaker}
use Rattle.meaning.specs.declared.types.Fact.{Fact}
use Rattle.meaning.specs.declared.types.Query.{Query}
use Rattle.meaning.specs.Values.{Value, Row}
use Rattle.meaning.specs.Instances.{IsInstance}
use Rattle.meaning.specs.Answers.{AnswersSelect}
use Rattle.meaning.specs.Conjunctive.{IsConjunctive}
use Rattle.meaning.specs.Fitting.{QueryFits, QueryHasConstants}
use Rattle.access_schema.specs.Meaning.{meaning_of}
use Rattle.sql_conjunctive.specs.declared.form.Conjunctive.{Conjunctive}
use Rattle.sql_conjunctive.specs.Form.{Clashes, IsNever, IfQuery, IsNumbered, HaveLiterals, AnswersForm}
use Rattle.sql_conjunctive.proofs.Forming.{narrow, never_is, conjunctive_is, numbered_is, fits_is, constants_are, answers_are}
use Rattle.sql_conjunctive.proofs.conjoin.conjunctive.Goals as goal

pub returns-clause-never : goal.returns-clause-never
returns-clause-never c = IfOk-weaker c.form_of.result _ _
    (λ form e. subst (λ (f : Conjunctive). IsNever f ↔ Clashes c.args.select.now.conditions) (sym e)
    (never_is (meaning_of c.args.schema.now) c.args.select.now c.requires.fits (narrow c.args.schema.now))) c.form_of.ensures

pub returns-clause-conjunctive : goal.returns-clause-conjunctive
returns-clause-conjunctive c = IfOk-weaker c.form_of.result _ _
    (λ form e. subst (λ (f : Conjunctive). IfQuery f (IsConjunctive (meaning_of c.args.schema.now) c.args.select.now)) (sym e)
    (conjunctive_is (meaning_of c.args.schema.now) c.args.select.now c.requires.fits (narrow c.args.schema.now))) c.form_of.ensures

pub returns-clause-numbered : goal.returns-clause-numbered
returns-clause-numbered c = IfOk-weaker c.form_of.result _ _
    (λ form e. subst (λ (f : Conjunctive). IfQuery f IsNumbered) (sym e)
    (numbered_is (meaning_of c.args.schema.now) c.args.select.now c.requires.fits (narrow c.args.schema.now))) c.form_of.ensures

pub returns-clause-fits : goal.returns-clause-fits
returns-clause-fits c = IfOk-weaker c.form_of.result _ _
    (λ form e. subst (λ (f : Conjunctive). IfQuery f (QueryFits (meaning_of c.args.schema.now))) (sym e)
    (fits_is (meaning_of c.args.schema.now) c.args.select.now c.requires.fits (narrow c.args.schema.now))) c.form_of.ensures

pub returns-clause-constants : goal.returns-clause-constants
returns-clause-constants c = IfOk-weaker c.form_of.result _ _
    (λ form e. subst (λ (f : Conjunctive). IfQuery f (λ (query : Query). (constants : List Value) → HaveLiterals constants c.args.select.now → QueryHasConstants constants query)) (sym e)
    (constants_are (meaning_of c.args.schema.now) c.args.select.now c.requires.fits (narrow c.args.schema.now))) c.form_of.ensures

pub returns-clause-answers : goal.returns-clause-answers
returns-clause-answers c = IfOk-weaker c.form_of.result _ _
    (λ form e. subst (λ (f : Conjunctive). (facts : List Fact) → IsInstance (meaning_of c.args.schema.now) facts → (row : Row) → AnswersForm f facts row ↔ AnswersSelect c.args.select.now facts row) (sym e)
    (answers_are (meaning_of c.args.schema.now) c.args.select.now c.requires.fits (narrow c.args.schema.now))) c.form_of.ensures
