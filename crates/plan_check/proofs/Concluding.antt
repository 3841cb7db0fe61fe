-- What the trials of both sides say of the plan.
use Rattle.std.proofs.Common.{◌≡◌, ℕ, List, inl, inr}
use Rattle.std.specs.Prelude.{Contains, slice_get, Option, Some, None}
use Rattle.std.specs.List.{AllZip}
use Rattle.lists.proofs.Members.{contains_got}
use Rattle.meaning.specs.declared.types.SchemaParts.{SchemaParts}
use Rattle.meaning.specs.declared.types.Fact.{Fact}
use Rattle.meaning.specs.declared.types.Query.{Query}
use Rattle.meaning.specs.declared.types.Branch.{Branch}
use Rattle.meaning.specs.declared.types.Plan.{Plan}
use Rattle.meaning.specs.declared.types.Select.{Select}
use Rattle.meaning.specs.declared.types.Statement.{Statement}
use Rattle.meaning.specs.Values.{Value, Row}
use Rattle.meaning.specs.Instances.{IsInstance}
use Rattle.meaning.specs.Answers.{Answers, AnswersSelect}
use Rattle.meaning.specs.Plans.{IsLawful, IsLawfulBranch}
use Rattle.meaning.specs.Rows.{IsRow, IsBranchRow}
use Rattle.meaning_laws.proofs.Judging.{rows_are_answers}
use Rattle.integer_laws.specs.Sorted.{AreSortedFacts}
use Rattle.integer_laws.proofs.Firings.{answered_is_sorted}
use Rattle.access_schema.specs.declared.schema.Schema.{Schema}
use Rattle.access_schema.specs.Meaning.{meaning_of}
use Rattle.access_schema.proofs.Keeping.{well_formed}
use Rattle.findings.specs.declared.verdict.Verdict.{Verdict}
use Rattle.findings.specs.declared.verdict.Verdict.TheVariants as verdict
use Rattle.plan_check.specs.declared.trial.Tried.{Tried}
use Rattle.plan_check.specs.declared.trial.Tried.TheVariants as all
use Rattle.sql_conjunctive.specs.Queries.{IsSelectForm}
use Rattle.plan_check.specs.Forms.{IsBranchForm}
use Rattle.plan_check.specs.Trials.{AnswersForm, AnswersSome, FormIsContained, FormStays, NoneSeparates, IsFirstSeparated, AreTried}
use Rattle.plan_check.specs.Verdicts.{known_of, IsLegalOver, GivesSelect, AnswersAlone, IsKept, IsWithin, NoneLost, NoneAdded, IsVerdict, verdict_of, IsConclusion}
use Rattle.plan_check.specs.Verdicts.IsConclusion.{same, lost, added, select_spent, branch_spent}
use Rattle.plan_check.specs.Verdicts.IsVerdict.{equivalent, loses, adds, undecided}
use Rattle.findings.specs.declared.verdict.Side.TheVariants as side
use Rattle.plan_extract.proofs.Zips.{zip_left, zip_right, zip_at, zip_from}
use Rattle.plan_check.proofs.Trying.{contained_none}

-- ---- trials of both sides

pub concluded : (schema : SchemaParts) (selects branches : List (Option Query)) (firings : ℕ) (first second : Tried) → AreTried schema selects branches firings first →
    AreTried schema branches selects firings second → IsConclusion schema selects branches firings (verdict_of first second)
concluded schema selects branches firings (all.Separated facts row) second is other = lost facts row is
concluded schema selects branches firings all.Contained (all.Separated facts row) one is = added facts row (contained_none schema branches firings selects one) is
concluded schema selects branches firings all.Contained all.Contained one other = same one other
concluded schema selects branches firings all.Contained (all.Spent number log) one first = branch_spent number log one first
concluded schema selects branches firings (all.Spent number log) (all.Separated facts row) first is = added facts row first.none is
concluded schema selects branches firings (all.Spent number log) all.Contained first other = select_spent number log first (contained_none schema selects firings branches other)
concluded schema selects branches firings (all.Spent number log) (all.Spent another its) first other = select_spent number log first other.none

-- ---- answers and rows

module _ (schema : Schema) (statement : Statement) (selects : List (Option Query)) (are : AllZip (IsSelectForm schema) statement.selects selects) where
  form_answers : (select : Select) (form : Option Query) → IsSelectForm schema select form → (facts : List Fact) → IsInstance (meaning_of schema) facts → (row : Row) →
      AnswersForm form facts row → AnswersSelect select facts row
  form_answers select None is facts instance row answer = absurd answer
  form_answers select (Some query) is facts instance row answer = (is.answers facts instance row).0 answer

  answers_form : (select : Select) (form : Option Query) → IsSelectForm schema select form → (facts : List Fact) → IsInstance (meaning_of schema) facts → (row : Row) →
      AnswersSelect select facts row → AnswersForm form facts row
  answers_form select None is facts instance row answer = is.no_answer facts instance row answer
  answers_form select (Some query) is facts instance row answer = (is.answers facts instance row).1 answer

  pub some_answers : (facts : List Fact) → IsInstance (meaning_of schema) facts → (row : Row) → AnswersSome selects facts row → Answers statement facts row
  some_answers facts instance row (form, among, answer) =
      let (select, there, is) = zip_right (IsSelectForm schema) statement.selects selects form are among in
      (select, there, form_answers select form is facts instance row answer)

  pub answers_some : (facts : List Fact) → IsInstance (meaning_of schema) facts → (row : Row) → Answers statement facts row → AnswersSome selects facts row
  answers_some facts instance row (select, among, answer) =
      let (form, there, is) = zip_left (IsSelectForm schema) statement.selects selects select are among in
      (form, there, answers_form select form is facts instance row answer)

module _ (schema : Schema) (known : List Value) (plan : Plan) (lawful : IsLawful plan (meaning_of schema) known) (branches : List (Option Query))
    (are : AllZip (IsBranchForm (meaning_of schema)) plan.branches branches) where
  form_rows : (branch : Branch) (form : Option Query) → IsLawfulBranch (meaning_of schema) known branch → IsBranchForm (meaning_of schema) branch form → (facts : List Fact) (row : Row) →
      AnswersForm form facts row → IsBranchRow (meaning_of schema) branch facts row
  form_rows branch None its is facts row answer = absurd answer
  form_rows branch (Some query) its is facts row answer = (rows_are_answers (meaning_of schema) known branch query facts row (well_formed schema) its is.0).1 answer

  -- on sorted facts a branch without a form has no row: it would be an answer of its query, whose atoms are not sorted
  rows_form : (branch : Branch) (form : Option Query) → IsLawfulBranch (meaning_of schema) known branch → IsBranchForm (meaning_of schema) branch form → (facts : List Fact) (row : Row) →
      AreSortedFacts (meaning_of schema) facts → IsBranchRow (meaning_of schema) branch facts row →
      AnswersForm form facts row
  rows_form branch None its (query, is, unsorted) facts row sorted answer =
      unsorted (answered_is_sorted (meaning_of schema) query facts row sorted
      ((rows_are_answers (meaning_of schema) known branch query facts row (well_formed schema) its is).0 answer))
  rows_form branch (Some query) its is facts row sorted answer =
      (rows_are_answers (meaning_of schema) known branch query facts row (well_formed schema) its is.0).0 answer

  pub some_rows : (facts : List Fact) (row : Row) → AnswersSome branches facts row → IsRow (meaning_of schema) plan facts row
  some_rows facts row (form, among, answer) =
      let (branch, there, is) = zip_right (IsBranchForm (meaning_of schema)) plan.branches branches form are among in
      (branch, there, form_rows branch form (lawful branch there).1 is facts row answer)

  pub rows_some : (facts : List Fact) (row : Row) → AreSortedFacts (meaning_of schema) facts →
      IsRow (meaning_of schema) plan facts row → AnswersSome branches facts row
  rows_some facts row sorted (branch, among, answer) =
      let (form, there, is) = zip_left (IsBranchForm (meaning_of schema)) plan.branches branches branch are among in
      (form, there, rows_form branch form (lawful branch among).1 is facts row sorted answer)

-- ---- what the trials of both sides do not show

module _ (schema : Schema) (statement : Statement) (plan : Plan) (firings : ℕ) (selects branches : List (Option Query)) (legal : IsLegalOver schema statement plan (known_of schema statement))
    (forms : AllZip (IsSelectForm schema) statement.selects selects) (queries : AllZip (IsBranchForm (meaning_of schema)) plan.branches branches) where
  -- a select whose query is contained in those of the branches is given by the plan
  gives_select : (select : Select) (form : Option Query) → IsSelectForm schema select form → FormIsContained (meaning_of schema) branches form → GivesSelect (meaning_of schema) plan select
  gives_select select form is contained facts row model answer =
      some_rows schema (known_of schema statement) plan legal.lawful branches queries facts row
      (contained facts row model.meets (answers_form schema statement selects forms select form is facts model.fits row answer))

  -- and a branch whose query is contained in those of the selects gives answers alone
  answers_alone : (branch : Branch) (form : Option Query) → Contains plan.branches branch → IsBranchForm (meaning_of schema) branch form → FormIsContained (meaning_of schema) selects form →
      AnswersAlone (meaning_of schema) statement branch
  answers_alone branch form among is contained facts row model rows =
      some_answers schema statement selects forms facts model.model.fits row
      (contained facts row model.model.meets
      (rows_form schema (known_of schema statement) plan legal.lawful branches queries branch form
      (legal.lawful branch among).1 is facts row model.sorted rows))

  -- a select whose query stays is kept
  is_kept : (number : ℕ) (select : Select) → slice_get statement.selects number ≡ Some select → (form : Option Query) → IsSelectForm schema select form → FormStays (meaning_of schema) branches firings form →
      IsKept schema statement plan firings number select
  is_kept number select at form is (inl contained) = inl (gives_select select form is contained)
  is_kept number select at None is (inr (log, spent)) = absurd spent
  is_kept number select at (Some query) is (inr (log, spent)) =
      inr (log, record { select = select; query = query; queries = branches; at = at; form = is.form; numbered = is.numbered; are = queries; spent = spent })

  -- and a branch whose query stays gives answers alone, or its firings are spent
  is_within : (number : ℕ) (branch : Branch) → slice_get plan.branches number ≡ Some branch → (form : Option Query) → IsBranchForm (meaning_of schema) branch form →
      FormStays (meaning_of schema) selects firings form → IsWithin schema statement plan firings number branch
  is_within number branch at form is (inl contained) = inl (answers_alone branch form (contains_got plan.branches number branch at) is contained)
  is_within number branch at None is (inr (log, spent)) = absurd spent
  is_within number branch at (Some query) is (inr (log, spent)) =
      inr (log, record { branch = branch; query = query; queries = selects; at = at; form = is.0; are = forms; spent = spent })

  none_lost : NoneSeparates (meaning_of schema) selects branches firings → NoneLost schema statement plan firings
  none_lost none number select at =
      let (form, there, is) = zip_from (IsSelectForm schema) statement.selects selects number select forms at in
      is_kept number select at form is (none form (contains_got selects number form there))

  none_added : NoneSeparates (meaning_of schema) branches selects firings → NoneAdded schema statement plan firings
  none_added none number branch at =
      let (form, there, is) = zip_from (IsBranchForm (meaning_of schema)) plan.branches branches number branch queries at in
      is_within number branch at form is (none form (contains_got branches number form there))

  -- the first that is separated
  first_lost : (facts : List Fact) (row : Row) → IsFirstSeparated (meaning_of schema) selects branches firings facts row → IsVerdict schema statement plan firings (verdict.Loses facts row)
  first_lost facts row first =
      let (select, at, is) = zip_at (IsSelectForm schema) statement.selects selects first.number (Some first.query) forms first.at in
      loses first.number facts row legal
      (λ k earlier less its. let (form, there, of) = zip_from (IsSelectForm schema) statement.selects selects k earlier forms its in is_kept k earlier its form of (first.before k form less there))
      (record {
        select = select;
        at = at;
        model = first.separated.model;
        answered = form_answers schema statement selects forms select (Some first.query) is facts first.separated.model.model.fits row first.separated.answered;
        no_row = λ rows. first.separated.not_others
            (rows_some schema (known_of schema statement) plan legal.lawful branches queries facts row
            first.separated.model.sorted rows);
      })

  first_added : (facts : List Fact) (row : Row) → NoneSeparates (meaning_of schema) selects branches firings → IsFirstSeparated (meaning_of schema) branches selects firings facts row →
      IsVerdict schema statement plan firings (verdict.Adds facts row)
  first_added facts row none first =
      let (branch, at, is) = zip_at (IsBranchForm (meaning_of schema)) plan.branches branches first.number (Some first.query) queries first.at in
      adds first.number facts row legal (none_lost none)
      (λ k earlier less its. let (form, there, of) = zip_from (IsBranchForm (meaning_of schema)) plan.branches branches k earlier queries its in is_within k earlier its form of (first.before k form less there))
      (record {
        branch = branch;
        at = at;
        model = first.separated.model;
        a_row = form_rows schema (known_of schema statement) plan legal.lawful branches queries branch (Some first.query) (legal.lawful branch (contains_got plan.branches first.number branch at)).1 is facts row first.separated.answered;
        not_answered = λ answers. first.separated.not_others (answers_some schema statement selects forms facts first.separated.model.model.fits row answers);
      })

-- ---- the verdict

pub verdict_is : (schema : Schema) (statement : Statement) (plan : Plan) (firings : ℕ) (selects branches : List (Option Query)) →
    IsLegalOver schema statement plan (known_of schema statement) → AllZip (IsSelectForm schema) statement.selects selects → AllZip (IsBranchForm (meaning_of schema)) plan.branches branches →
    (verdict : Verdict) → IsConclusion (meaning_of schema) selects branches firings verdict → IsVerdict schema statement plan firings verdict
verdict_is schema statement plan firings selects branches legal forms queries _ (same there back) =
    equivalent legal (record {
      sound = λ facts row model rows. some_answers schema statement selects forms facts model.model.fits row
          (back facts row model.model.meets
          (rows_some schema (known_of schema statement) plan legal.lawful branches queries facts row model.sorted
          rows));
      complete = λ facts row model answers. some_rows schema (known_of schema statement) plan legal.lawful branches queries facts row
          (there facts row model.model.meets (answers_some schema statement selects forms facts model.model.fits row answers));
    })
verdict_is schema statement plan firings selects branches legal forms queries _ (lost facts row first) = first_lost schema statement plan firings selects branches legal forms queries facts row first
verdict_is schema statement plan firings selects branches legal forms queries _ (added facts row none first) = first_added schema statement plan firings selects branches legal forms queries facts row none first
verdict_is schema statement plan firings selects branches legal forms queries _ (select_spent number log first none) =
    let (select, there, is) = zip_at (IsSelectForm schema) statement.selects selects number (Some first.query) forms first.at in
    undecided (side.Select number) log legal
    (none_lost schema statement plan firings selects branches legal forms queries first.none)
    (none_added schema statement plan firings selects branches legal forms queries none)
    (λ k earlier less at.
    let (form, its, of) = zip_from (IsSelectForm schema) statement.selects selects k earlier forms at in
    gives_select schema statement plan firings selects branches legal forms queries earlier form of (first.before k form less its))
    (record { select = select; query = first.query; queries = branches; at = there; form = is.form; numbered = is.numbered; are = queries; spent = first.spent })
verdict_is schema statement plan firings selects branches legal forms queries _ (branch_spent number log there first) =
    let (branch, it, is) = zip_at (IsBranchForm (meaning_of schema)) plan.branches branches number (Some first.query) queries first.at in
    undecided (side.Branch number) log legal
    (none_lost schema statement plan firings selects branches legal forms queries (contained_none (meaning_of schema) branches firings selects there))
    (none_added schema statement plan firings selects branches legal forms queries first.none) (
      λ select among facts row model answer.
          some_rows schema (known_of schema statement) plan legal.lawful branches queries facts row
          (there facts row model.meets (answers_some schema statement selects forms facts model.fits row (select, among, answer))),
      λ k earlier less at.
          let (form, its, of) = zip_from (IsBranchForm (meaning_of schema)) plan.branches branches k earlier queries at in
          answers_alone schema statement plan firings selects branches legal forms queries earlier form (contains_got plan.branches k earlier at) of (first.before k form less its),
    )
    (record { branch = branch; query = first.query; queries = selects; at = it; form = is.0; are = forms; spent = first.spent })
