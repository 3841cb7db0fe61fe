-- What the search of a query comes to.
use Rattle.std.proofs.Common.{◌≡◌, ℕ, ◌+◌, ◌<◌, ◌≤◌, List, [], ◌∷◌, ◌++◌, length, take, Option, Some, None, sym, ap, ◌∙◌, subst, inl, inr, ⊎_elim, arith}
use Rattle.std.specs.Prelude.{Contains, slice_get, slice_index_or}
use Rattle.std.specs.List.{AllZip}
use Rattle.std.specs.Option.{option_or}
use Rattle.std.proofs.lemmas.List.{length-map, take_all}
use Rattle.std.proofs.lemmas.Bool.{cases_lt}
use Rattle.lists.proofs.Members.{contains_got, some_injective}
use Rattle.std.proofs.lemmas.Option.{slice_get_within}
use Rattle.lists.proofs.Places.{take_got, got_contained, got_indexed, got_seam}
use Rattle.meaning.specs.declared.types.SchemaParts.{SchemaParts}
use Rattle.meaning.specs.declared.types.Query.{Query}
use Rattle.meaning.specs.declared.types.Branch.{Branch}
use Rattle.meaning.specs.declared.types.Firing.{Firing}
use Rattle.meaning.specs.declared.types.Val.{Val}
use Rattle.meaning.specs.Values.{Value}
use Rattle.meaning.specs.Runs.{HasGoal, opening, frozen_head}
use Rattle.meaning.specs.Fitting.{QueryHasConstants}
use Rattle.access_schema.specs.Meaning.{meaning_of}
use Rattle.accessible_copy.specs.declared.entry.Entry.{Entry}
use Rattle.accessible_copy.specs.Proving.{Proving, log_of}
use Rattle.accessible_copy.specs.Goals.{IsGoal}
use Rattle.accessible_copy.specs.Rounds.{GoesOn}
use Rattle.proof_search.specs.Searches.{IsSearch}
use Rattle.plan_extract.specs.Branches.{IsBranchFor, IsProofFor}
use Rattle.findings.specs.declared.refutation.Witness.{Witness}
use Rattle.proof_search.specs.Branches.{IsRefutingPair, IsSpentLog, HasBranch, IsOpen}
use Rattle.proof_search.specs.Outcomes.{IsFirst, IsFirstStuck, IsFirstSpent}
use Rattle.proof_search.specs.declared.outcome.First.{First}
use Rattle.proof_search.specs.declared.question.Question.{Question}
use Rattle.proof_search.specs.declared.question.Questions.{Questions}
use Rattle.proof_search.specs.Questions.{IsQuestion, IsSearchFor, IsBranchOn, IsFirstFor}
use Rattle.proof_search.proofs.RefutingPairs.{run_moved}
use Rattle.plan_extract.proofs.Zips.{zip_push, zip_at}

module _ (schema : SchemaParts) (known : List Value) (queries : List Query) (firings : ℕ) (query : Query) (proof : Proving) (search : IsSearch schema firings (opening query) known proof)
    (none : HasGoal queries proof.end (frozen_head query) → ⊥) where
  -- no goal, and the firings are spent
  pub spent_log : firings ≤ length proof.entries → GoesOn schema proof → IsSpentLog schema known queries firings query (log_of proof)
  spent_log low (firing, next, on) =
      let high = search.few in
      let same : length (log_of proof) ≡ length proof.entries = length-map proof.entries (λ (entry : Entry). entry.firing) in
      record {
        end = proof.end;
        count = omega arith;
        run = run_moved schema firings (opening query) known proof search (log_of proof) proof.end search.ordered;
        no_goal = none;
        goes_on = (firing, next, run_moved schema firings (opening query) known proof search (log_of proof ++ firing ∷ []) next on);
      }

module _ (question : Question) (is : IsQuestion question) where
  -- a proof of a search is one for its query
  pub proof_for : (proof : Proving) → IsSearchFor question proof → IsProofFor (meaning_of question.schema.now) proof question.head.now question.query.now
  proof_for proof search =
      let searchable = is.queries question.query.now is.among in
      record {
        run = search.run;
        begun = search.begun;
        fits = searchable.fits;
        constants = subst (λ constants. QueryHasConstants constants question.query.now) (sym search.constants) searchable.constants;
        head_is = is.head;
      }

  -- a goal: the branch that is extracted is a rival. The goals are some of the queries
  pub goal_branch : (proof : Proving) → proof.constants ≡ question.known.now → length proof.entries ≤ question.firings →
      IsProofFor (meaning_of question.schema.now) proof question.head.now question.query.now →
      (goals : List Query) → ((q : Query) → Contains goals q → Contains question.queries.now q) →
      (values : List Val) (number : ℕ) (branch : Branch) → IsGoal goals proof.end.copy question.head.now number values →
      ((query goal : Query) → IsProofFor (meaning_of question.schema.now) proof question.head.now query → slice_get goals number ≡ Some goal →
      IsBranchFor (meaning_of question.schema.now) proof.constants query goal branch) →
      length branch.steps ≤ length proof.entries → IsBranchOn question branch
  goal_branch proof constants most of_query goals within values number branch (goal, got, match) read few =
      let its = subst (λ known. IsBranchFor (meaning_of question.schema.now) known question.query.now goal branch) constants
      (read question.query.now goal of_query got) in
      let low = is.firings in
      record {
        rival = record {
          lawful = its.lawful;
          sound = λ facts row model rows. (goal, within goal (contains_got goals number goal got), its.sound facts row model.meets rows);
          complete = λ facts row model answer. its.complete facts row model.meets answer;
        };
        width = its.width;
        few = omega arith;
      }

-- ---- the queries so far

module _ (schema : SchemaParts) (known : List Value) (queries : List Query) (firings : ℕ) where
  -- the firings of this query are spent, and each before it has a branch
  pub record IsSpentBy (number : ℕ) (log : List Firing) : Type 0 where
    pub query : Query
    pub at : slice_get queries number ≡ Some query
    pub spent : IsSpentLog schema known queries firings query log
    pub before : (k : ℕ) (earlier : Query) → k < number → slice_get queries k ≡ Some earlier → HasBranch schema known queries earlier

  -- each of so many queries has a branch, or the firings of a first one are spent
  abbrev pub ComeTo : ℕ → List First → Option (ℕ × List Firing) → Type 0
  ComeTo n firsts None =
      AllZip (IsFirst schema known queries) (take n queries) firsts
      × ((k : ℕ) (earlier : Query) → k < n → slice_get queries k ≡ Some earlier → HasBranch schema known queries earlier)
  ComeTo n firsts (Some (number, log)) = IsSpentBy number log

  -- so many queries were tried, and none of them is stuck
  pub record AreTried (n : ℕ) (firsts : List First) (spent : Option (ℕ × List Firing)) : Type 0 where
    pub come : ComeTo n firsts spent
    pub open_all : (k : ℕ) (query : Query) → k < n → slice_get queries k ≡ Some query → IsOpen schema known queries firings query

  pub none_tried : (firsts : List First) → firsts ≡ [] → AreTried 0 firsts None
  none_tried firsts none = record {
    come = (subst (AllZip (IsFirst schema known queries) (take 0 queries)) (sym none) tt, λ k earlier low at. absurd (omega arith));
    open_all = λ k query low at. absurd (omega arith);
  }

  module _ (n : ℕ) (query : Query) (got : slice_get queries n ≡ Some query) (firsts : List First) where
    -- what holds of the queries before and of this one
    later : (P : Query → Type 0) → ((k : ℕ) (other : Query) → k < n → slice_get queries k ≡ Some other → P other) → P query →
        (k : ℕ) (other : Query) → k < n + 1 → slice_get queries k ≡ Some other → P other
    later P before here k other low at = ⊎_elim
        (λ less. before k other less at)
        (λ least. let same : n ≡ k = omega (arith, least, low) in
        subst P (some_injective query other (sym got ∙ ap (slice_get queries) same ∙ at)) here)
        (cases_lt k n)

    -- one more first branch
    pub branch_more : (spent : Option (ℕ × List Firing)) (first : First) → AreTried n firsts spent → IsFirst schema known queries query first →
        AreTried (n + 1) (firsts ++ first ∷ []) spent
    branch_more spent first tried is = record {
      come = more spent tried.come;
      open_all = later (IsOpen schema known queries firings) tried.open_all (inl (first.branch, is));
    }
      where
        more : (spent : Option (ℕ × List Firing)) → ComeTo n firsts spent → ComeTo (n + 1) (firsts ++ first ∷ []) spent
        more None (all, before) = (
          subst (λ list. AllZip (IsFirst schema known queries) list (firsts ++ first ∷ [])) (sym (take_got queries n query got))
              (zip_push (IsFirst schema known queries) (take n queries) firsts query first all is),
          later (HasBranch schema known queries) before (first.branch, is),
        )
        more (Some (number, log)) by = by

    -- firings that are spent
    pub spent_more : (spent : Option (ℕ × List Firing)) (log : List Firing) → AreTried n firsts spent → IsSpentLog schema known queries firings query log →
        AreTried (n + 1) firsts (option_or spent (Some (n, log)))
    spent_more spent log tried is = record {
      come = more spent tried.come;
      open_all = later (IsOpen schema known queries firings) tried.open_all (inr (log, is));
    }
      where
        more : (spent : Option (ℕ × List Firing)) → ComeTo n firsts spent → ComeTo (n + 1) firsts (option_or spent (Some (n, log)))
        more None (all, before) = record { query = query; at = got; spent = is; before = before }
        more (Some (number, its)) by = by

    -- the first that is stuck
    pub stuck_here : (spent : Option (ℕ × List Firing)) (pair : Witness) → AreTried n firsts spent → IsRefutingPair schema known queries query pair →
        IsFirstStuck schema known queries firings pair
    stuck_here spent pair tried is = record { number = n; query = query; at = got; stuck = is; before = tried.open_all }

  module _ (n : ℕ) (firsts : List First) (all : length queries ≤ n) where
    -- each query has a branch
    pub all_branches : AreTried n firsts None → AllZip (IsFirst schema known queries) queries firsts
    all_branches tried = subst (λ list. AllZip (IsFirst schema known queries) list firsts) (take_all n queries all) tried.come.0

    -- or the firings of a first one are spent
    pub first_spent : (number : ℕ) (log : List Firing) → AreTried n firsts (Some (number, log)) → IsFirstSpent schema known queries firings number log
    first_spent number log tried = record {
      query = tried.come.query;
      at = tried.come.at;
      spent = tried.come.spent;
      before = tried.come.before;
      open_all = λ other among. tried.open_all among.0 other (omega (arith, all, among.1)) (got_contained queries other among);
    }

-- ---- the first branches, one after the other

module _ (questions : Questions) (firsts taken left : List First) (first : First) (rest : List First) (n : ℕ)
    (all : AllZip (IsFirstFor questions) questions.queries.now firsts) (parts : taken ++ left ≡ firsts) (next : left ≡ first ∷ rest) (number : n ≡ length taken) where
  -- the query of the next one
  pub at_turn : (query : Query) × (slice_get questions.queries.now n ≡ Some query) × IsFirstFor questions query first
  at_turn = zip_at (IsFirstFor questions) questions.queries.now firsts n first all
      (ap (λ list. slice_get list n) (sym parts ∙ ap (λ list. taken ++ list) next)
      ∙ ap (slice_get (taken ++ first ∷ rest)) number ∙ got_seam taken first rest)

  -- which is the one at its place
  pub first_at : (queries : List Query) → queries ≡ questions.queries.now → (query : Query) → query ≡ slice_index_or queries n query →
      (slice_get questions.queries.now n ≡ Some query) × IsFirstFor questions query first
  first_at queries same query is =
      let (other, at, its) = at_turn in
      let there : slice_get queries n ≡ Some other = ap (λ list. slice_get list n) same ∙ at in
      let got : slice_get queries n ≡ Some query = got_indexed queries n query (slice_get_within queries n other there) is in (
        sym (ap (λ list. slice_get list n) same) ∙ got,
        subst (λ (q : Query). IsFirstFor questions q first) (some_injective other query (sym there ∙ got)) its,
      )
