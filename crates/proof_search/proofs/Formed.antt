-- The queries of a statement's selects can be searched and stand for the statement, and their branches make its plan.
use Rattle.std.proofs.Common.{◌≡◌, ℕ, ◌+◌, ◌*◌, ◌<◌, ◌≤◌, zero, suc, List, [], ◌∷◌, length, map, Option, Some, None, Result, Ok, Err, refl, sym, ap, ◌∙◌, subst, inl, inr, ⊎_elim, arith}
use Rattle.std.specs.Prelude.{Contains, slice_get, IfOk}
use Rattle.std.specs.List.{AllZip}
use Rattle.std.proofs.lemmas.List.{length-map}
use Rattle.lists.proofs.Members.{contains_here, contains_there, contains_cases, contains_got, contains_none, contains_mapped, some_injective, none_some}
use Rattle.meaning.specs.declared.types.Branch.{Branch}
use Rattle.meaning.specs.declared.types.Fact.{Fact}
use Rattle.meaning.specs.declared.types.Firing.{Firing}
use Rattle.meaning.specs.declared.types.Plan.{Plan}
use Rattle.meaning.specs.declared.types.Query.{Query}
use Rattle.meaning.specs.declared.types.Select.{Select}
use Rattle.meaning.specs.declared.types.Statement.{Statement}
use Rattle.meaning.specs.Values.{Value, Row}
use Rattle.meaning.specs.Instances.{IsInstance}
use Rattle.meaning.specs.Costs.{IsRival}
use Rattle.meaning.specs.Matching.{AnswersQuery}
use Rattle.meaning.specs.Answers.{AnswersSelect}
use Rattle.meaning.specs.Triggers.{terms_bound}
use Rattle.meaning.specs.Conjunctive.{SelectIsSorted, term_of, IsAtomFor, StandFor}
use Rattle.meaning.specs.Extract.{IsQueryRival}
use Rattle.meaning.specs.Plans.{NamesMethods}
use Rattle.meaning.proofs.Steps.{lawful_named}
use Rattle.meaning_laws.proofs.Carrying.{occurs_below}
use Rattle.meaning_laws.proofs.Closing.{plan_from_branches}
use Rattle.integer_laws.specs.Claimed.{RefutesSorted, IsSortedSelectRival, IsSortedRival}
use Rattle.integer_laws.proofs.Forms.{forms_are_sorted}
use Rattle.access_schema.specs.declared.schema.Schema.{Schema}
use Rattle.access_schema.specs.Meaning.{meaning_of}
use Rattle.access_schema.specs.Invariant.{terms_of}
use Rattle.access_schema.proofs.Ordered.{ordered_from, bound_is}
use Rattle.access_schema.proofs.Texts.{once_known, once_taken}
use Rattle.findings.specs.declared.least.Least.{Least}
use Rattle.findings.specs.declared.least.Least.TheVariants.{Shown, SearchSpent, FiringsSpent}
use Rattle.rule_pass.specs.declared.pass.TheConstants.{MOST_FIRINGS}
use Rattle.sql_select.specs.Known.{literals_in}
use Rattle.sql_select.specs.Statements.{StatementFits}
use Rattle.sql_conjunctive.specs.Form.{HaveLiterals, Clashes}
use Rattle.sql_conjunctive.specs.Queries.{IsQueryOf, IsSelectForm}
use Rattle.sql_conjunctive.proofs.Counted.{bounded_terms, ordered_short, terms_few}
use Rattle.plan_extract.proofs.Read.{schema_narrow}
use Rattle.plan_extract.proofs.Zips.{zip_left, zip_right, zip_at, zip_from, zip_length}
use Rattle.findings.specs.declared.refutation.Witness.{Witness}
use Rattle.findings.specs.declared.decision.Chosen.{Chosen as Entry}
use Rattle.findings.specs.declared.decision.Chosen.TheVariants as chosen
use Rattle.findings.specs.declared.decision.Decision.{Decision}
use Rattle.findings.specs.declared.decision.Decision.TheVariants as decision
use Rattle.no_plan_witness.proofs.Literals.{have_literals}
use Rattle.proof_search.specs.declared.outcome.Choice.{Choice}
use Rattle.proof_search.specs.declared.question.Questions.{Questions}
use Rattle.proof_search.specs.Searches.{AreSearchable, IsSearchable}
use Rattle.proof_search.specs.Branches.{IsQueryBranch, IsSpentLog, HasBranch, IsOpen}
use Rattle.proof_search.specs.Plans.{known_of, IsPlanFor, HasFewSteps, HasNoPlan}
use Rattle.proof_search.specs.Chosen.{IsSaid, AreChosen}
use Rattle.proof_search.specs.Choices.{IsSaidFor, IsChoice}
use Rattle.proof_search.specs.Outcomes.{IsFirstStuck, IsFirstSpent}
use Rattle.proof_search.specs.Questions.{MOST_KNOWN, AreQuestions}
use Rattle.proof_search.specs.Forms.{queries_in, place_in, branches_in, AreAskedFor, AreEntriesOf, IsPlanOf}
use Rattle.proof_search.specs.Decisions.{IsSpentSelect, IsAnswered, IsOpenSelect, IsRefutation, IsUndecided, IsDecision}
use Rattle.proof_search.specs.Decisions.IsDecision.{plan as of_plan}
use Rattle.proof_search.proofs.FewKnown.{known_few}

-- ---- the queries of those selects that have one

query_from : (forms : List (Option Query)) (query : Query) → Contains (queries_in forms) query → Contains forms (Some query)
query_from [] query among = absurd (contains_none query among)
query_from (None ∷ forms) query among = contains_there None forms (Some query) (query_from forms query among)
query_from (Some other ∷ forms) query among = ⊎_elim
    (λ same. subst (λ (q : Query). Contains (Some other ∷ forms) (Some q)) same (contains_here (Some other) forms))
    (λ there. contains_there (Some other) forms (Some query) (query_from forms query there))
    (contains_cases other (queries_in forms) query among)

query_to : (forms : List (Option Query)) (query : Query) → Contains forms (Some query) → Contains (queries_in forms) query
query_to [] query among = absurd (contains_none (Some query) among)
query_to (None ∷ forms) query among = ⊎_elim
    (λ same. absurd (none_some query same))
    (λ there. query_to forms query there)
    (contains_cases None forms (Some query) among)
query_to (Some other ∷ forms) query among = ⊎_elim
    (λ same. subst (Contains (other ∷ queries_in forms)) (some_injective other query same) (contains_here other (queries_in forms)))
    (λ there. contains_there other (queries_in forms) query (query_to forms query there))
    (contains_cases (Some other) forms (Some query) among)

queries_few : (forms : List (Option Query)) → length (queries_in forms) ≤ length forms
queries_few [] = omega arith
queries_few (None ∷ forms) = let rest = queries_few forms in omega arith
queries_few (Some query ∷ forms) = let rest = queries_few forms in omega arith

-- the select of a query
at_place : (forms : List (Option Query)) (number : ℕ) (query : Query) → slice_get (queries_in forms) number ≡ Some query →
    slice_get forms (place_in forms number) ≡ Some (Some query)
at_place [] number query at = absurd (cc)
at_place (None ∷ forms) number query at = at_place forms number query at
at_place (Some other ∷ forms) zero query at = ap Some at
at_place (Some other ∷ forms) (suc number) query at = at_place forms number query at

-- a query of a select before it is one before the query
before_place : (forms : List (Option Query)) (number k : ℕ) (other : Query) → k < place_in forms number → slice_get forms k ≡ Some (Some other) →
    (m : ℕ) × (m < number) × (slice_get (queries_in forms) m ≡ Some other)
before_place [] number k other low at = absurd (omega arith)
before_place (None ∷ forms) number zero other low at = absurd (none_some other (some_injective None (Some other) at))
before_place (None ∷ forms) number (suc k) other low at = before_place forms number k other (omega (arith, low)) at
before_place (Some first ∷ forms) zero k other low at = absurd (omega arith)
before_place (Some first ∷ forms) (suc number) zero other low at = (0, omega arith, some_injective (Some first) (Some other) at)
before_place (Some first ∷ forms) (suc number) (suc k) other low at =
    let (m, less, its) = before_place forms number k other (omega (arith, low)) at in (suc m, omega (arith, less), its)

-- what holds of pairs holds of the first ones and of a part of the second ones
zip_mapped : {A B C : Type 0} (P : A → B → Type 0) (Q : A → C → Type 0) (f : B → C) → ((x : A) (y : B) → P x y → Q x (f y)) →
    (xs : List A) (ys : List B) → AllZip P xs ys → AllZip Q xs (map f ys)
zip_mapped P Q f each [] [] all = tt
zip_mapped P Q f each [] (y ∷ ys) all = absurd all
zip_mapped P Q f each (x ∷ xs) [] all = absurd all
zip_mapped P Q f each (x ∷ xs) (y ∷ ys) all = (each x y all.0, zip_mapped P Q f each xs ys all.1)

module _ (schema : Schema) (statement : Statement) (forms : List (Option Query)) (fits : StatementFits schema statement)
    (are : AllZip (IsSelectForm schema) statement.selects forms) where
  -- ---- the queries stand for the statement

  select_of : (query : Query) → Contains (queries_in forms) query →
      (select : Select) × Contains statement.selects select × IsQueryOf schema select query
  select_of query among = zip_right (IsSelectForm schema) statement.selects forms (Some query) are (query_from forms query among)

  query_of : (select : Select) → Contains statement.selects select → (facts : List Fact) (row : Row) → IsInstance (meaning_of schema) facts →
      AnswersSelect select facts row → (query : Query) × Contains (queries_in forms) query × AnswersQuery query facts row
  query_of select among facts row instance answer =
      let (form, there, is) = zip_left (IsSelectForm schema) statement.selects forms select are among in by form there is
    where
      by : (form : Option Query) → Contains forms form → IsSelectForm schema select form →
          (query : Query) × Contains (queries_in forms) query × AnswersQuery query facts row
      by None there is = absurd (is.no_answer facts instance row answer)
      by (Some query) there is = (query, query_to forms query there, (is.answers facts instance row).1 answer)

  pub stand : StandFor (meaning_of schema) (queries_in forms) statement
  stand = record {
    sound = λ facts row query is among answer.
        let (select, there, its) = select_of query among in (select, there, (its.answers facts is row).0 answer);
    complete = λ facts row is (select, among, answer). query_of select among facts row is answer;
  }

  -- ---- the queries can be searched

  few_queries : length (queries_in forms) ≤ 16
  few_queries =
      let long = zip_length (IsSelectForm schema) statement.selects forms are in
      let most : length statement.selects ≤ 16 = fits.few in
      omega (arith, queries_few forms, long, most)

  searchable_of : (known : List Value) (select : Select) (query : Query) → HaveLiterals known select → length select.froms ≤ 16 →
      SelectIsSorted (meaning_of schema) select → IsQueryOf schema select query →
      IsSearchable (meaning_of schema) known query
  searchable_of known select query literals froms sorted is =
      let fitting = is.fits in
      let variables = fitting.variables in
      let terms : length (terms_of query.atoms) ≤ 64 * length query.atoms = terms_few query.atoms (λ atom there.
      let fit = fitting.arity atom there in let width = fit.width in let columns = schema_narrow schema fit.relation atom.rel fit.there in omega arith) in
      let atoms : length query.atoms ≡ length select.froms = zip_length (IsAtomFor (meaning_of schema)) select.froms query.atoms is.form.atoms in
      let order : terms_bound (terms_of query.atoms) ≤ 0 + length (terms_of query.atoms) = ordered_short 0 (terms_of query.atoms) (ordered_from (terms_of query.atoms) is.numbered.in_order) in
      let all = bound_is query.atoms in
      let count = is.numbered.variables in
      record {
        fits = fitting;
        constants = is.constants known literals;
        counted = record {
          atoms = fitting.variables;
          head = bounded_terms query.variables query.head (λ x there. let below = occurs_below query.atoms x (fitting.head x there) in omega arith);
        };
        few = omega arith;
        sorted = forms_are_sorted (meaning_of schema) select query sorted is.form;
      }

  searchable : (known : List Value) → ((text : Value) → Contains (literals_in statement.selects) text → Contains known text) →
      AreSearchable (meaning_of schema) known (queries_in forms)
  searchable known have query among =
      let (select, there, is) = select_of query among in
      searchable_of known select query (have_literals statement.selects select there known have)
      (fits.bounded select there).froms (fits.sorted select there) is

  -- ---- what the proofs of the queries say of the selects

  -- a branch for a query is a rival for its select
  rival_of : (select : Select) (query : Query) → IsQueryOf schema select query → (branch : Branch) →
      IsQueryRival (meaning_of schema) (known_of schema statement) (queries_in forms) query branch →
      IsRival (meaning_of schema) (known_of schema statement) statement select branch
  rival_of select query is branch rival = record {
    lawful = rival.lawful;
    sound = λ facts row model rows.
        let (goal, among, answer) = rival.sound facts row model rows in stand.sound facts row goal model.fits among answer;
    complete = λ facts row model answer. rival.complete facts row model ((is.answers facts model.fits row).1 answer);
  }

  -- and a rival for a select on sorted models is one for its query
  rival_for : (select : Select) (query : Query) → IsQueryOf schema select query → (rival : Branch) →
      IsSortedSelectRival (meaning_of schema) (known_of schema statement) statement select rival →
      IsSortedRival (meaning_of schema) (known_of schema statement) (queries_in forms) query rival
  rival_for select query of rival is = record {
    lawful = is.lawful;
    sound = λ facts row sorted rows. stand.complete facts row sorted.model.fits (is.sound facts row sorted rows);
    complete = λ facts row sorted answer.
        is.complete facts row sorted ((of.answers facts sorted.model.fits row).0 answer);
  }

  spent_select : (firings : ℕ) (select : Select) (query : Query) → Contains (queries_in forms) query → IsQueryOf schema select query → (log : List Firing) →
      IsSpentLog (meaning_of schema) (known_of schema statement) (queries_in forms) firings query log → IsSpentSelect schema statement firings select log
  spent_select firings select query among is log spent = record {
    queries = queries_in forms;
    query = query;
    end = spent.end;
    form = is.form;
    numbered = is.numbered;
    stand = stand;
    among = among;
    count = spent.count;
    run = spent.run;
    no_goal = spent.no_goal;
    goes_on = spent.goes_on;
  }

  module _ (P : Query → Type 0) (R : Select → Type 0) (clash : (select : Select) → Clashes select.conditions → R select)
      (each : (select : Select) (query : Query) → Contains (queries_in forms) query → IsQueryOf schema select query → P query → R select) where
    of_form : (select : Select) (form : Option Query) → IsSelectForm schema select form →
        ((query : Query) → form ≡ Some query → Contains (queries_in forms) query × P query) → R select
    of_form select None is holds = clash select is.clashes
    of_form select (Some query) is holds = let (among, its) = holds query refl in each select query among is its

    -- what holds of each query holds of each select
    of_each : ((query : Query) → Contains (queries_in forms) query → P query) → (select : Select) → Contains statement.selects select → R select
    of_each holds select among =
        let (form, there, is) = zip_left (IsSelectForm schema) statement.selects forms select are among in
        of_form select form is (λ query same.
        let inside = query_to forms query (subst (Contains forms) same there) in (inside, holds query inside))

    -- and so before a query and before its select
    of_earlier : (number : ℕ) → ((m : ℕ) (query : Query) → m < number → slice_get (queries_in forms) m ≡ Some query → P query) →
        (k : ℕ) (select : Select) → k < place_in forms number → slice_get statement.selects k ≡ Some select → R select
    of_earlier number holds k select low at =
        let (form, there, is) = zip_from (IsSelectForm schema) statement.selects forms k select are at in
        of_form select form is (λ query same.
        let (m, less, its) = before_place forms number k query low (there ∙ ap Some same) in
        (contains_got (queries_in forms) m query its, holds m query less its))

  module _ (firings : ℕ) where
    answered : (select : Select) (query : Query) → Contains (queries_in forms) query → IsQueryOf schema select query →
        HasBranch (meaning_of schema) (known_of schema statement) (queries_in forms) query → IsAnswered schema statement select
    answered select query among is (branch, its) = inr (branch, rival_of select query is branch its.rival)

    open_select : (select : Select) (query : Query) → Contains (queries_in forms) query → IsQueryOf schema select query →
        IsOpen (meaning_of schema) (known_of schema statement) (queries_in forms) firings query → IsOpenSelect schema statement firings select
    open_select select query among is (inl branch) = inl (answered select query among is branch)
    open_select select query among is (inr (log, spent)) = inr (log, spent_select firings select query among is log spent)

    -- the pair of the first query that is stuck, where there is no plan if a pair refutes by sorted instances
    pub refuted : (pair : Witness) → IsFirstStuck (meaning_of schema) (known_of schema statement) (queries_in forms) firings pair →
        (RefutesSorted (meaning_of schema) (known_of schema statement) statement pair.first pair.second pair.answer →
        HasNoPlan schema statement) → IsRefutation schema statement firings pair
    refuted pair first no_plan_if =
        let sorted = first.stuck.refutes statement stand in
        let (select, at, is) = zip_at (IsSelectForm schema) statement.selects forms (place_in forms first.number) (Some first.query) are
        (at_place forms first.number first.query first.at) in
        record {
          refutes = sorted;
          none = no_plan_if sorted;
          wide = λ other there.
              first.stuck.wide ∙ ap length is.form.head ∙ length-map select.items (term_of first.query.atoms)
              ∙ fits.wide select other (contains_got statement.selects (place_in forms first.number) select at) there;
          number = place_in forms first.number;
          select = select;
          of_statement = at;
          answered = (is.answers pair.first sorted.refutes.first_meets.fits pair.answer).0 first.stuck.answered;
          before = of_earlier (IsOpen (meaning_of schema) (known_of schema statement) (queries_in forms) firings) (IsOpenSelect schema statement firings)
              (λ other clash. inl (inl clash)) open_select first.number first.before;
        }

    -- the log of the first query whose firings are spent
    pub undecided_of : (number : ℕ) (log : List Firing) → IsFirstSpent (meaning_of schema) (known_of schema statement) (queries_in forms) firings number log →
        IsUndecided schema statement firings (place_in forms number) log
    undecided_of number log first =
        let (select, at, is) = zip_at (IsSelectForm schema) statement.selects forms (place_in forms number) (Some first.query) are
        (at_place forms number first.query first.at) in
        record {
          select = select;
          of_statement = at;
          spent = spent_select firings select first.query (contains_got (queries_in forms) number first.query first.at) is log first.spent;
          before = of_earlier (HasBranch (meaning_of schema) (known_of schema statement) (queries_in forms)) (IsAnswered schema statement)
              (λ other clash. inl clash) answered number first.before;
          open_all = of_each (IsOpen (meaning_of schema) (known_of schema statement) (queries_in forms) firings) (IsOpenSelect schema statement firings)
              (λ other clash. inl (inl clash)) open_select first.open_all;
        }

    -- ---- the plan of what was chosen

    module _ (search : ℕ) where
      Chooses : Query → Choice → Type 0
      Chooses = IsChoice (meaning_of schema) (known_of schema statement) (queries_in forms) firings search

      choice_at : (choices : List Choice) → AllZip Chooses (queries_in forms) choices → (branch : Branch) → Contains (branches_in choices) branch →
          (query : Query) × Contains (queries_in forms) query × IsQueryBranch (meaning_of schema) (known_of schema statement) (queries_in forms) query branch
      unfolding Chooses
      choice_at choices all branch among =
          let (choice, there, same) = contains_mapped (λ (c : Choice). c.branch) choices branch among in
          let (query, inside, is) = zip_right Chooses (queries_in forms) choices choice all there in
          (query, inside, subst (IsQueryBranch (meaning_of schema) (known_of schema statement) (queries_in forms) query) same is.branch)

      pub choices_named : (choices : List Choice) → AllZip (IsChoice (meaning_of schema) (known_of schema statement) (queries_in forms) firings search) (queries_in forms) choices →
          (branch : Branch) → Contains (branches_in choices) branch → NamesMethods (meaning_of schema) branch.steps
      unfolding Chooses
      choices_named choices all branch among =
          let (query, there, is) = choice_at choices all branch among in
          lawful_named (meaning_of schema) (known_of schema statement) 0 branch.steps branch.output is.rival.lawful

      pub choices_short : (choices : List Choice) → AllZip (IsChoice (meaning_of schema) (known_of schema statement) (queries_in forms) firings search) (queries_in forms) choices →
          (branch : Branch) → Contains (branches_in choices) branch → length branch.steps ≤ MOST_FIRINGS
      unfolding Chooses
      choices_short choices all branch among = let (query, there, is) = choice_at choices all branch among in is.few

      -- a plan of these branches that is as wide as the selects
      planned : (width : ℕ) → ((select : Select) → Contains statement.selects select → width ≡ length select.items) → (choices : List Choice) →
          AllZip Chooses (queries_in forms) choices → IsPlanFor schema statement (record { width = width; branches = branches_in choices })
      unfolding Chooses
      planned width widths choices all =
          let plan : Plan = record { width = width; branches = branches_in choices } in
          let both = plan_from_branches (meaning_of schema) (known_of schema statement) statement (queries_in forms) plan stand
          (zip_mapped Chooses (IsQueryRival (meaning_of schema) (known_of schema statement) (queries_in forms)) (λ (c : Choice). c.branch)
          (λ query choice is. is.branch.rival) (queries_in forms) choices all)
          (λ branch among.
          let (query, there, is) = choice_at choices all branch among in
          let (select, inside, of) = select_of query there in
          is.width ∙ ap length of.form.head ∙ length-map select.items (term_of query.atoms) ∙ sym (widths select inside)) in
          record { lawful = both.0; wide = widths; equivalent = both.1 }

      few_steps : (width : ℕ) (choices : List Choice) → AllZip Chooses (queries_in forms) choices → HasFewSteps (record { width = width; branches = branches_in choices })
      unfolding Chooses
      few_steps width choices all = record {
        branches = let long = zip_length Chooses (queries_in forms) choices all in
            let same = length-map choices (λ (c : Choice). c.branch) in omega (arith, long, same, few_queries);
        steps = choices_short choices all;
      }

      -- what is said of a query's branch is said of its select's
      said_of : (select : Select) (query : Query) → IsQueryOf schema select query → (branch : Branch) (least : Least) →
          IsSaidFor (meaning_of schema) (known_of schema statement) (queries_in forms) firings search query branch least →
          IsSaid schema statement firings search select branch least
      said_of select query of branch Shown is = λ rival cost other its cost_is other_is. is rival cost other (rival_for select query of rival its) cost_is other_is
      said_of select query of branch (SearchSpent units) is = (is.0, record { query = query; form = of.form; numbered = of.numbered; so = is.1 })
      said_of select query of branch (FiringsSpent spent) is = (is.0, record { query = query; form = of.form; numbered = of.numbered; so = is.1 })

      chosen_are : (selects : List Select) (some : List (Option Query)) (choices : List Choice) (entries : List Entry) → AllZip (IsSelectForm schema) selects some →
          AllZip Chooses (queries_in some) choices → AreEntriesOf (meaning_of schema) some choices entries →
          AreChosen schema statement firings search selects (branches_in choices) entries
      unfolding Chooses
      chosen_are [] [] [] [] formed all is = tt
      chosen_are [] [] [] (entry ∷ entries) formed all is = absurd is
      chosen_are [] [] (choice ∷ choices) entries formed all is = absurd all
      chosen_are [] (form ∷ some) choices entries formed all is = absurd formed
      chosen_are (select ∷ selects) [] choices entries formed all is = absurd formed
      chosen_are (select ∷ selects) (None ∷ some) [] [] formed all is = absurd is
      chosen_are (select ∷ selects) (None ∷ some) (choice ∷ choices) [] formed all is = absurd is
      chosen_are (select ∷ selects) (None ∷ some) [] (chosen.NoRow ∷ entries) formed all is =
          (formed.0.clashes, chosen_are selects some [] entries formed.1 all is)
      chosen_are (select ∷ selects) (None ∷ some) (choice ∷ choices) (chosen.NoRow ∷ entries) formed all is =
          (formed.0.clashes, chosen_are selects some (choice ∷ choices) entries formed.1 all is)
      chosen_are (select ∷ selects) (None ∷ some) [] (chosen.Branch cost least ∷ entries) formed all is = absurd is
      chosen_are (select ∷ selects) (None ∷ some) (choice ∷ choices) (chosen.Branch cost least ∷ entries) formed all is = absurd is
      chosen_are (select ∷ selects) (Some query ∷ some) [] entries formed all is = absurd all
      chosen_are (select ∷ selects) (Some query ∷ some) (choice ∷ choices) [] formed all is = absurd is
      chosen_are (select ∷ selects) (Some query ∷ some) (choice ∷ choices) (chosen.NoRow ∷ entries) formed all is = absurd is.0
      chosen_are (select ∷ selects) (Some query ∷ some) (choice ∷ choices) (chosen.Branch cost least ∷ entries) formed all is =
          let ((costs, same), rest) = is in
          let said = said_of select query formed.0 choice.branch choice.least all.0.said in (
            formed.0.free,
            costs,
            subst (IsSaid schema statement firings search select choice.branch) (sym same) said,
            chosen_are selects some choices entries formed.1 all.1 rest,
          )

      pub decided_plan : (width : ℕ) → ((select : Select) → Contains statement.selects select → width ≡ length select.items) → (choices : List Choice) →
          AllZip (IsChoice (meaning_of schema) (known_of schema statement) (queries_in forms) firings search) (queries_in forms) choices →
          (decided : Decision) → IsPlanOf (meaning_of schema) width forms choices decided → IsDecision schema statement firings search decided
      unfolding Chooses
      decided_plan width widths choices all (decision.NoPlan pair) is = absurd is
      decided_plan width widths choices all (decision.Undecided number log) is = absurd is
      decided_plan width widths choices all (decision.Plan plan entries) (plan_is, are_entries) =
          of_plan plan entries
          (subst (IsPlanFor schema statement) (sym plan_is) (planned width widths choices all))
          (subst HasFewSteps (sym plan_is) (few_steps width choices all))
          (subst (λ (p : Plan). AreChosen schema statement firings search statement.selects p.branches entries) (sym plan_is)
          (chosen_are statement.selects forms choices entries are all are_entries))

      pub ended_plan : {E : Type 0} → (width : ℕ) → ((select : Select) → Contains statement.selects select → width ≡ length select.items) → (choices : List Choice) →
          AllZip (IsChoice (meaning_of schema) (known_of schema statement) (queries_in forms) firings search) (queries_in forms) choices →
          (result : Result Decision E) → IfOk result (IsPlanOf (meaning_of schema) width forms choices) → IfOk result (IsDecision schema statement firings search)
      ended_plan width widths choices all (Ok decided) is = decided_plan width widths choices all decided is
      ended_plan width widths choices all (Err e) is = tt

-- what is asked of a statement's queries can be asked
pub asked : (statement : Statement) (forms : List (Option Query)) (questions : Questions) → AreAskedFor statement forms questions → AreQuestions questions
asked statement forms questions is =
    let schema = questions.schema.now in
    let literals = literals_in statement.selects in
    let few = few_queries schema statement forms is.fits is.formed in
    record {
      queries = subst (AreSearchable (meaning_of schema) questions.known.now) (sym is.queries)
          (searchable schema statement forms is.fits is.formed questions.known.now
          (λ text there. subst (λ known. Contains known text) (sym is.known) (once_taken schema.constants literals text there)));
      few = let same = ap length is.queries in omega (arith, few, same);
      known = λ c among. subst (λ known. Contains known c) (sym is.known) (once_known schema.constants literals c among);
      few_known = subst (λ (known : List Value). length known ≤ MOST_KNOWN) (sym is.known)
          (known_few schema statement is.fits);
      firings = is.firings;
    }

-- what is found of the questions is found over the known constants, of the queries of the selects
pub found_of : (statement : Statement) (forms : List (Option Query)) (questions : Questions) → AreAskedFor statement forms questions →
    (P : List Value → List Query → Type 0) → P questions.known.now questions.queries.now → P (known_of questions.schema.now statement) (queries_in forms)
found_of statement forms questions is P holds = subst (λ known. P known (queries_in forms)) is.known (subst (P questions.known.now) is.queries holds)
