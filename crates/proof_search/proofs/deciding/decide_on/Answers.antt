use Rattle.std.proofs.Common.{◌≤◌, ◌∙◌, length, sym, ap, subst, arith}
use Rattle.std.specs.List.{AllZip}
use Rattle.access_schema.specs.Meaning.{meaning_of}
use Rattle.access_schema.proofs.Keeping.{well_formed}
use Rattle.sql_conjunctive.specs.Queries.{IsSelectForm}
use Rattle.plan_extract.proofs.Zips.{zip_length}
use Rattle.findings.specs.declared.decision.Decision.TheVariants as decision
use Rattle.proof_search.specs.Plans.{known_of}
use Rattle.proof_search.specs.Choices.{IsChoice}
use Rattle.proof_search.specs.Outcomes.{IsFirstStuck, IsFirstSpent}
use Rattle.proof_search.specs.Questions.{IsChoiceFor}
use Rattle.proof_search.specs.Forms.{place_in}
use Rattle.proof_search.specs.Decisions.{IsDecision}
use Rattle.proof_search.specs.Decisions.IsDecision.{no_plan, undecided}
use Rattle.proof_search.proofs.Formed.{asked, found_of, choices_named, choices_short, ended_plan, refuted, undecided_of}
use Rattle.proof_search.proofs.deciding.decide_on.Goals as goal

pub first_branches-requires : goal.first_branches-requires
first_branches-requires c = asked c.args.statement.now c.args.forms.now c.args.questions.now c.requires

pub chosen_branches-requires-clause-questions : goal.chosen_branches-requires-clause-questions
chosen_branches-requires-clause-questions c = asked c.args.statement.now c.args.forms.now c.args.questions.now c.requires

pub plan_of-requires-clause-count : goal.plan_of-requires-clause-count
plan_of-requires-clause-count c =
    let questions = c.args.questions.now in
    zip_length (IsChoiceFor questions c.args.search) questions.queries.now c.in_ok-choices-in-Branches.choices c.in_ok-choices-in-Branches.ensures ∙ ap length c.requires.queries

pub plan_of-requires-clause-named : goal.plan_of-requires-clause-named
plan_of-requires-clause-named c =
    let questions = c.args.questions.now in
    let schema = questions.schema.now in
    let choices = c.in_ok-choices-in-Branches.choices in
    choices_named schema c.args.statement.now c.args.forms.now c.requires.fits c.requires.formed questions.firings c.args.search choices
    (found_of c.args.statement.now c.args.forms.now questions c.requires
    (λ known queries. AllZip (IsChoice (meaning_of schema) known queries questions.firings c.args.search) queries choices) c.in_ok-choices-in-Branches.ensures)

pub plan_of-requires-clause-steps : goal.plan_of-requires-clause-steps
plan_of-requires-clause-steps c =
    let questions = c.args.questions.now in
    let schema = questions.schema.now in
    let choices = c.in_ok-choices-in-Branches.choices in
    choices_short schema c.args.statement.now c.args.forms.now c.requires.fits c.requires.formed questions.firings c.args.search choices
    (found_of c.args.statement.now c.args.forms.now questions c.requires
    (λ known queries. AllZip (IsChoice (meaning_of schema) known queries questions.firings c.args.search) queries choices) c.in_ok-choices-in-Branches.ensures)

pub returns-in_ok-choices-in-Branches : goal.returns-in_ok-choices-in-Branches
returns-in_ok-choices-in-Branches c =
    let questions = c.args.questions.now in
    let schema = questions.schema.now in
    let choices = c.in_ok-choices-in-Branches.choices in
    let (select, there, width_is) = c.first_width.ensures in
    ended_plan schema c.args.statement.now c.args.forms.now c.requires.fits c.requires.formed questions.firings c.args.search c.first_width.result
    (λ other among. width_is ∙ c.requires.fits.wide select other there among) choices
    (found_of c.args.statement.now c.args.forms.now questions c.requires
    (λ known queries. AllZip (IsChoice (meaning_of schema) known queries questions.firings c.args.search) queries choices) c.in_ok-choices-in-Branches.ensures)
    c.plan_of.result c.plan_of.ensures

pub place_of-requires : goal.place_of-requires
place_of-requires c =
    let schema = c.args.questions.now.schema.now in
    let long = zip_length (IsSelectForm schema) c.args.statement.now.selects c.args.forms.now c.requires.formed in
    let most : length c.args.statement.now.selects ≤ 16 = c.requires.fits.few in
    omega (arith, long, most)

pub returns-in-Stuck : goal.returns-in-Stuck
returns-in-Stuck c =
    let questions = c.args.questions.now in
    let schema = questions.schema.now in
    let pair = c.in-Stuck.pair in
    let first : IsFirstStuck (meaning_of schema) questions.known.now questions.queries.now questions.firings pair = rw c.in-Stuck.is at c.in_ok-firsts.ensures in
    no_plan pair
    (refuted schema c.args.statement.now c.args.forms.now c.requires.fits c.requires.formed questions.firings pair
    (found_of c.args.statement.now c.args.forms.now questions c.requires
    (λ known queries. IsFirstStuck (meaning_of schema) known queries questions.firings pair) first)
    (c.no_sorted_plan.ensures (meaning_of schema) (known_of schema c.args.statement.now) c.args.statement.now
    pair.first pair.second pair.answer (well_formed schema)))

pub returns-in-Spent : goal.returns-in-Spent
returns-in-Spent c =
    let questions = c.args.questions.now in
    let schema = questions.schema.now in
    let number = c.in-Spent.number in
    let log = c.in-Spent.log in
    let first : IsFirstSpent (meaning_of schema) questions.known.now questions.queries.now questions.firings number log = rw c.in-Spent.is at c.in_ok-firsts.ensures in
    subst (λ place. IsDecision schema c.args.statement.now questions.firings c.args.search (decision.Undecided place log)) (sym c.place_of.ensures)
    (undecided (place_in c.args.forms.now number) log
    (undecided_of schema c.args.statement.now c.args.forms.now c.requires.fits c.requires.formed questions.firings number log
    (found_of c.args.statement.now c.args.forms.now questions c.requires
    (λ known queries. IsFirstSpent (meaning_of schema) known queries questions.firings number log) first)))
