-- The rows of the matches of a query are its answers, and the rows of selects are a statement's.
use Rattle.std.proofs.Common.{◌≡◌, ◌↔◌, ◌⊎◌, ℕ, zero, suc, ◌+◌, ◌<◌, ◌≤◌, List, [], ◌∷◌, ◌++◌, length, get_or, take, Option, Some, None, refl, sym, ap, ◌∙◌, subst, inl, inr, ⊎_elim, arith}
use Rattle.std.specs.Prelude.{Contains, map}
use Rattle.std.proofs.lemmas.List.{take_more, take_all, map-append}
use Rattle.std.proofs.lemmas.List.Elements.{All-contains, Contains-append_left, Contains-append_right, Contains-append_cases, Contains-push}
use Rattle.meaning.specs.declared.types.Term.{Term}
use Rattle.meaning.specs.declared.types.Term.TheVariants.{Var, Const as Said}
use Rattle.meaning.specs.declared.types.Fact.{Fact}
use Rattle.meaning.specs.declared.types.Ground.{Ground}
use Rattle.meaning.specs.declared.types.Query.{Query}
use Rattle.meaning.specs.declared.types.Val.{Val}
use Rattle.meaning.specs.declared.types.SchemaParts.{SchemaParts}
use Rattle.meaning.specs.declared.types.Select.{Select}
use Rattle.meaning.specs.Values.{Value, Row}
use Rattle.meaning.specs.Instances.{IsInstance}
use Rattle.meaning.specs.Homomorphisms.{image}
use Rattle.meaning.specs.Matching.{value_of, OccursIn, itself, AnswersQuery}
use Rattle.meaning.specs.Answers.{AnswersSelect}
use Rattle.meaning.specs.Triggers.{bound}
use Rattle.meaning_laws.proofs.Carrying.{occurs_below}
use Rattle.access_schema.specs.Invariant.{terms_of}
use Rattle.access_schema.proofs.Ordered.{ordered_from, occurs, occurs_in, bound_is}
use Rattle.homomorphism.specs.declared.assignment.Assignment.{Assignment}
use Rattle.homomorphism.specs.Bindings.{Agrees, at, values_of}
use Rattle.homomorphism.specs.Instances.{AreFactsOf}
use Rattle.homomorphism.specs.Texts.{blank, text_at, row_of}
use Rattle.homomorphism.proofs.Instances.{said, said_at, facts_there, facts_back}
use Rattle.homomorphism.specs.Matches.{AreMatches, AreCovered}
use Rattle.lists.proofs.Members.{contains_got, contains_map, contains_mapped, map_same}
use Rattle.sql_conjunctive.specs.declared.form.Conjunctive.{Conjunctive}
use Rattle.sql_conjunctive.specs.declared.form.Conjunctive.TheVariants as form
use Rattle.sql_conjunctive.specs.Form.{IsNumbered, AnswersForm}
use Rattle.sql_conjunctive.specs.Rows.{AreRowsOf, AreFree, head_under}

module _ (facts : List Fact) (store : List Ground) (are : AreFactsOf facts store) where
  -- the rows of the head under all matches are the answers
  pub rows_are : (query : Query) (fixed : List (Option Val)) (matches : List Assignment) → AreMatches store query.atoms fixed matches → AreFree fixed → bound query.atoms ≤ length fixed →
      ((x : ℕ) → Contains query.head (Var x) → OccursIn query.atoms x) → (row : Row) → Contains (map (head_under query.head) matches) row ↔ AnswersQuery query facts row
  rows_are query fixed matches is free wide head row = (sound, complete)
    where
      sound : Contains (map (head_under query.head) matches) row → AnswersQuery query facts row
      sound c =
          let (m, among, e) = contains_mapped (head_under query.head) matches row c in
          (text_at m.vals, facts_back facts store are (at m.vals) query.atoms (is.each m among).facts_are, sym e)

      agrees : (a : ℕ → Val) → Agrees fixed a
      agrees a x v got = let none : Some v ≡ None = All-contains (λ value. value ≡ None) fixed (Some v) free (contains_got fixed x (Some v) got) in absurd (cc)

      head_text : (a : ℕ → Value) (term : Term) → Contains query.head term → value_of itself (text_at (values_of (length fixed) (said a))) term ≡ value_of itself a term
      head_text a (Said c) there = refl
      head_text a (Var x) there = let below : x < bound query.atoms = occurs_below query.atoms x (head x there) in ap (image blank) (said_at (length fixed) a x (omega arith))

      complete : AnswersQuery query facts row → Contains (map (head_under query.head) matches) row
      complete (a, holds, e) =
          subst (λ r. Contains (map (head_under query.head) matches) r)
          (map_same (value_of itself (text_at (values_of (length fixed) (said a)))) (value_of itself a) query.head (head_text a) ∙ sym e)
          (contains_map (head_under query.head) matches (record { vals = values_of (length fixed) (said a) }) (is.all (said a) (agrees (said a)) (facts_there facts store are a query.atoms holds)))

-- the atoms of a numbered query have all its variables
pub covered : (query : Query) (fixed : List (Option Val)) → IsNumbered query → length fixed ≡ query.variables → AreCovered query.atoms fixed
covered query fixed numbered width x below =
    let count = bound_is query.atoms in
    let many = numbered.variables in
    inr (occurs_in query.atoms x (occurs 0 (terms_of query.atoms) (ordered_from (terms_of query.atoms) numbered.in_order) x (omega arith) (omega arith)))

-- no row of a select that is Never
pub never_rows : (schema : SchemaParts) (select : Select) (made : Conjunctive) → made ≡ form.Never → ((facts : List Fact) → IsInstance schema facts → (row : Row) → AnswersForm made facts row ↔ AnswersSelect select facts row) →
    (facts : List Fact) → IsInstance schema facts → (row : Row) → Contains [] row ↔ AnswersSelect select facts row
never_rows schema select made never answers facts is row = (
  (λ c. absurd (omega arith)),
  (λ answer. absurd (subst (λ (f : Conjunctive). AnswersForm f facts row) never ((answers facts is row).1 answer))),
)

-- the rows of a select's query
pub form_rows : (schema : SchemaParts) (select : Select) (made : Conjunctive) (query : Query) (rows : List Row) → made ≡ form.Query query → ((facts : List Fact) → IsInstance schema facts → (row : Row) → AnswersForm made facts row ↔ AnswersSelect select facts row) →
    (facts : List Fact) → IsInstance schema facts → ((row : Row) → Contains rows row ↔ AnswersQuery query facts row) → (row : Row) → Contains rows row ↔ AnswersSelect select facts row
form_rows schema select made query rows queried answers facts is exact row =
    let form_is : AnswersQuery query facts row ↔ AnswersSelect select facts row = subst (λ (f : Conjunctive). AnswersForm f facts row ↔ AnswersSelect select facts row) queried (answers facts is row) in
    ((λ c. form_is.0 ((exact row).0 c)), (λ answer. (exact row).1 (form_is.1 answer)))

pub no_rows : (facts : List Fact) → AreRowsOf facts [] []
no_rows facts row = ((λ c. absurd (omega arith)), (λ (select, among, answer). absurd (none among)))
  where
    none : {select : Select} → Contains [] select → ⊥
    none among = omega arith

-- the rows of one select more
pub rows_more : (facts : List Fact) (selects : List Select) (i : ℕ) (select : Select) (rows more : List Row) → i < length selects → select ≡ get_or selects i select → AreRowsOf facts (take i selects) rows →
    ((row : Row) → Contains more row ↔ AnswersSelect select facts row) → AreRowsOf facts (take (i + 1) selects) (rows ++ more)
rows_more facts selects i select rows more below is before here row =
    let next : take (i + 1) selects ≡ take i selects ++ select ∷ [] = take_more selects i select below ∙ ap (λ s. take i selects ++ s ∷ []) (sym is) in
    subst (λ ss. Contains (rows ++ more) row ↔ ((select : Select) × Contains ss select × AnswersSelect select facts row)) (sym next) (to, from)
  where
    to : Contains (rows ++ more) row → (one : Select) × Contains (take i selects ++ select ∷ []) one × AnswersSelect one facts row
    to c = ⊎_elim
        (λ first. let (one, among, answer) = (before row).0 first in (one, Contains-append_left (take i selects) (select ∷ []) one among, answer))
        (λ second. (select, Contains-push (take i selects) select, (here row).0 second))
        (Contains-append_cases rows more row c)

    from : (one : Select) × Contains (take i selects ++ select ∷ []) one × AnswersSelect one facts row → Contains (rows ++ more) row
    from (one, among, answer) = ⊎_elim
        (λ first. Contains-append_left rows more row ((before row).1 (one, first, answer)))
        (λ last. Contains-append_right rows more row ((here row).1 (subst (λ (s : Select). AnswersSelect s facts row) (sym last) answer)))
        (only one among)
      where
        single : (one : Select) → Contains (select ∷ []) one → select ≡ one
        single one (zero, l, e) = e
        single one (suc k, l, e) = absurd (omega arith)

        only : (one : Select) → Contains (take i selects ++ select ∷ []) one → Contains (take i selects) one ⊎ (select ≡ one)
        only one c = ⊎_elim (λ h. inl h) (λ h. inr (single one h)) (Contains-append_cases (take i selects) (select ∷ []) one c)

-- the rows of all selects
pub rows_all : (facts : List Fact) (selects : List Select) (i : ℕ) (rows : List Row) → length selects ≤ i → AreRowsOf facts (take i selects) rows → AreRowsOf facts selects rows
rows_all facts selects i rows past is = subst (λ ss. AreRowsOf facts ss rows) (take_all i selects past) is

-- other rows with the same members
pub rows_moved : (facts : List Fact) (selects : List Select) (rows sorted : List Row) → ((row : Row) → Contains sorted row ↔ Contains rows row) → AreRowsOf facts selects rows → AreRowsOf facts selects sorted
rows_moved facts selects rows sorted same is row = ((λ c. (is row).0 ((same row).0 c)), (λ answer. (same row).1 ((is row).1 answer)))

-- the row of one assignment more
pub rows_push : (head : List Term) (assignments : List Assignment) (i : ℕ) (one : Assignment) (rows : List Row) (row : Row) → i < length assignments → one ≡ get_or assignments i one → rows ≡ map (head_under head) (take i assignments) → row ≡ row_of head one.vals →
    rows ++ row ∷ [] ≡ map (head_under head) (take (i + 1) assignments)
rows_push head assignments i one rows row below is so e =
    let next : take (i + 1) assignments ≡ take i assignments ++ one ∷ [] = take_more assignments i one below ∙ ap (λ a. take i assignments ++ a ∷ []) (sym is) in
    ap (λ rs. rs ++ row ∷ []) so ∙ ap (λ r. map (head_under head) (take i assignments) ++ r ∷ []) e ∙ sym (map-append (head_under head) (take i assignments) (one ∷ [])) ∙ ap (map (head_under head)) (sym next)
