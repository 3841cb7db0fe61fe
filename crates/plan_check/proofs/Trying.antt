-- One query after another, against the same others.
use Rattle.std.proofs.Common.{◌≡◌, ◌⊎◌, ℕ, ◌+◌, ◌<◌, List, [], ◌∷◌, ◌++◌, length, take, sym, ap, ◌∙◌, subst, ⊎_elim, inl, inr, arith}
use Rattle.std.specs.Prelude.{Contains, slice_get, Option, Some, None}
use Rattle.std.specs.Option.{option_or}
use Rattle.std.proofs.lemmas.List.{length-take-le}
use Rattle.std.proofs.lemmas.Option.{slice_get_within}
use Rattle.std.proofs.lemmas.List.Elements.{Contains-push_cases}
use Rattle.lists.proofs.Members.{contains_got, got_before, got_push}
use Rattle.lists.proofs.Places.{take_got}
use Rattle.meaning.specs.declared.types.SchemaParts.{SchemaParts}
use Rattle.meaning.specs.declared.types.Fact.{Fact}
use Rattle.meaning.specs.declared.types.Query.{Query}
use Rattle.meaning.specs.declared.types.Trigger.{Trigger}
use Rattle.meaning.specs.declared.types.Val.{Val}
use Rattle.meaning.specs.declared.types.Ground.{Ground}
use Rattle.meaning.specs.Values.{Value, Row}
use Rattle.plan_extract.proofs.GoingBack.{take_has}
use Rattle.plan_check.specs.declared.trial.Outcome.{Outcome}
use Rattle.plan_check.specs.declared.trial.Outcome.TheVariants as one
use Rattle.plan_check.specs.Trials.{FormHas, SomeHas, FormOutcome, AreContained, FormIsContained, FormIsSpent, FormStays, NoneSeparates, IsFirstSeparated, IsFirstSpent, AnswersForm, FormIsTriable, AreTriable, FormIsCounted, AreCounted}

-- ---- rows

-- none of the first queries has the head
abbrev pub NoneHas : List Ground → List Val → List (Option Query) → Type 0
NoneHas facts head forms = (form : Option Query) → Contains forms form → FormHas facts head form → ⊥

pub none_more : (facts : List Ground) (head : List Val) (forms : List (Option Query)) (n : ℕ) (form : Option Query) → slice_get forms n ≡ Some form →
    NoneHas facts head (take n forms) → (FormHas facts head form → ⊥) → NoneHas facts head (take (n + 1) forms)
none_more facts head forms n form got before not other among = ⊎_elim
    (λ there. before other there)
    (λ same. subst (λ f. FormHas facts head f → ⊥) same not)
    (Contains-push_cases (take n forms) form other (subst (λ list. Contains list other) (take_got forms n form got) among))

pub none_all : (facts : List Ground) (head : List Val) (forms some : List (Option Query)) → some ≡ forms → NoneHas facts head some → SomeHas facts forms head → ⊥
none_all facts head forms some same none (form, among, has) = none form (subst (λ list. Contains list form) (sym same) among) has

-- queries that can be tried are counted
form_counted : (schema : SchemaParts) (known : List Value) (form : Option Query) → FormIsTriable schema known form → FormIsCounted form
form_counted schema known None is = tt
form_counted schema known (Some query) is = is.counted

pub triable_counted : (schema : SchemaParts) (known : List Value) (forms : List (Option Query)) → AreTriable schema known forms → AreCounted forms
triable_counted schema known forms are form among = form_counted schema known form (are form among)

-- ---- trials

module _ (schema : SchemaParts) (others : List (Option Query)) (firings : ℕ) where
  one_contained : (form : Option Query) → FormOutcome schema others firings form one.Contained → FormIsContained schema others form
  one_contained None is = λ facts row meets answer. absurd answer
  one_contained (Some query) is = is

  one_spent : (form : Option Query) (log : List Trigger) → FormOutcome schema others firings form (one.Spent log) → FormIsSpent schema others firings form log
  one_spent None log is = absurd (cc)
  one_spent (Some query) log is = is

  pub contained_none : (forms : List (Option Query)) → AreContained schema forms others → NoneSeparates schema forms others firings
  contained_none forms are form among = inl (λ facts row meets answer. are facts row meets (form, among, answer))

  none_push : (forms : List (Option Query)) (form : Option Query) → NoneSeparates schema forms others firings → FormStays schema others firings form → NoneSeparates schema (forms ++ form ∷ []) others firings
  none_push forms form none stays other among = ⊎_elim
      (λ there. none other there)
      (λ same. subst (λ f. FormStays schema others firings f) same stays)
      (Contains-push_cases forms form other among)

  -- what the trials so far come to, none of which separates: all are contained, or the firings of a first one are spent
  abbrev pub SoFar : List (Option Query) → Option (ℕ × List Trigger) → Type 0
  SoFar forms None = AreContained schema forms others
  SoFar forms (Some (number, log)) = IsFirstSpent schema forms others firings number log

  pub none_so_far : (forms : List (Option Query)) → forms ≡ [] → SoFar forms None
  none_so_far forms none facts row meets (form, among, answer) =
      absurd (let there : Contains [] form = subst (λ list. Contains list form) none among in omega (arith, there.1))

  so_far_stays : (forms : List (Option Query)) (spent : Option (ℕ × List Trigger)) → SoFar forms spent → NoneSeparates schema forms others firings
  so_far_stays forms None are = contained_none forms are
  so_far_stays forms (Some (number, log)) first = first.none

  -- the first spent one stays so, where the next one does not separate
  first_push : (forms : List (Option Query)) (form : Option Query) (number : ℕ) (log : List Trigger) → IsFirstSpent schema forms others firings number log → FormStays schema others firings form →
      IsFirstSpent schema (forms ++ form ∷ []) others firings number log
  first_push forms form number log first stays =
      let low : number < length forms = slice_get_within forms number (Some first.query) first.at in
      record {
        query = first.query;
        at = got_before forms (form ∷ []) number low ∙ first.at;
        spent = first.spent;
        before = λ k other less at. first.before k other less (sym (got_before forms (form ∷ []) k (omega (arith, low, less))) ∙ at);
        none = none_push forms form first.none stays;
      }

  contained_push : (forms : List (Option Query)) (form : Option Query) (spent : Option (ℕ × List Trigger)) → SoFar forms spent → FormIsContained schema others form → SoFar (forms ++ form ∷ []) spent
  contained_push forms form None are is = λ facts row meets (other, among, answer). ⊎_elim
      (λ there. are facts row meets (other, there, answer))
      (λ same. is facts row meets (subst (λ f. AnswersForm f facts row) (sym same) answer))
      (Contains-push_cases forms form other among)
  contained_push forms form (Some (number, log)) first is = first_push forms form number log first (inl is)

  spent_push : (forms : List (Option Query)) (form : Option Query) (spent : Option (ℕ × List Trigger)) (n : ℕ) (log : List Trigger) → n ≡ length forms → SoFar forms spent →
      FormIsSpent schema others firings form log → SoFar (forms ++ form ∷ []) (option_or spent (Some (n, log)))
  spent_push forms None None n log count are is = absurd is
  spent_push forms (Some query) None n log count are is = record {
    query = query;
    at = ap (λ k. slice_get (forms ++ Some query ∷ []) k) count ∙ got_push forms (Some query);
    spent = is;
    before = λ k form less at facts row meets answer.
        are facts row meets (form, contains_got forms k form (sym (got_before forms (Some query ∷ []) k (omega (arith, less, count))) ∙ at), answer);
    none = none_push forms (Some query) (contained_none forms are) (inr (log, is));
  }
  spent_push forms form (Some (number, its)) n log count first is = first_push forms form number its first (inr (log, is))

  module _ (forms : List (Option Query)) (n : ℕ) (form : Option Query) (spent : Option (ℕ × List Trigger)) (got : slice_get forms n ≡ Some form) (so_far : SoFar (take n forms) spent) where
    low : n < length forms
    low = slice_get_within forms n form got

    pub contained_more : FormOutcome schema others firings form one.Contained → SoFar (take (n + 1) forms) spent
    contained_more is = subst (λ list. SoFar list spent) (sym (take_got forms n form got)) (contained_push (take n forms) form spent so_far (one_contained form is))

    pub spent_more : (log : List Trigger) → FormOutcome schema others firings form (one.Spent log) → SoFar (take (n + 1) forms) (option_or spent (Some (n, log)))
    spent_more log is =
        let few = low in
        subst (λ list. SoFar list (option_or spent (Some (n, log)))) (sym (take_got forms n form got))
        (spent_push (take n forms) form spent n log (sym (length-take-le n forms (omega (arith, few)))) so_far (one_spent form log is))

    pub separated_here : (facts : List Fact) (row : Row) → FormOutcome schema others firings form (one.Separated facts row) → IsFirstSeparated schema forms others firings facts row
    separated_here facts row is = by form got is
      where
        by : (form : Option Query) → slice_get forms n ≡ Some form → FormOutcome schema others firings form (one.Separated facts row) → IsFirstSeparated schema forms others firings facts row
        by None at is = absurd (cc)
        by (Some query) at is = record {
          number = n;
          query = query;
          at = at;
          separated = is;
          before = λ k other less its. so_far_stays (take n forms) spent so_far other (take_has forms n k other less its);
        }

  pub so_far_all : (forms some : List (Option Query)) (spent : Option (ℕ × List Trigger)) → some ≡ forms → SoFar some spent → SoFar forms spent
  so_far_all forms some spent same are = subst (λ list. SoFar list spent) same are
