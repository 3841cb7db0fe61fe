-- The answers to the requests of a round, as a function of the values, and the next partial rows that they give.
use Rattle.std.proofs.Common.{◌≡◌, ◌↔◌, inl, inr, ℕ, cond, List, [], ◌∷◌, length, map, Some, refl, sym, ◌∙◌, ap, subst, arith}
use Rattle.std.specs.Prelude.{Contains, slice_get, flat_map}
use Rattle.std.specs.List.{AllByRecursion}
use Rattle.std.specs.List.Sorted.{IsStrictlySortedBy}
use Rattle.std.specs.Ordering.{is_eq}
use Rattle.std.specs.declared.cmp.Ordering.{Ordering}
use Rattle.std.specs.declared.cmp.Ordering.TheVariants.{Less, Equal}
use Rattle.std.proofs.lemmas.Cmp.{tied_itself}
use Rattle.std.proofs.lemmas.Option.{slice_get-get_or}
use Rattle.lists.proofs.Members.{contains_cases, map_got, map_same, contains_joined, joined_from}
use Rattle.lists.proofs.Orders.{rows_total}
use Rattle.meaning.specs.declared.types.Fact.{Fact}
use Rattle.meaning.specs.declared.types.Method.{Method}
use Rattle.meaning.specs.declared.types.Place.{Place}
use Rattle.source_trait.specs.Asking.{RowList, pick}
use Rattle.row_text.specs.RowText.{row_cmp}
use Rattle.middleware.specs.Held.{SameFacts}
use Rattle.middleware.specs.Joining.{grown, input_row_of}
use Rattle.middleware.specs.Rounds.{next_rows}
use Rattle.middleware.specs.LaneAsking.{AnswersFrom}
use Rattle.middleware.proofs.Steps.{grown_joins, joins_grown, in_pick, pick_in}

-- the answer to the request with these values
abbrev pub answer_at : RowList → List RowList → List (List ℕ) → RowList
answer_at [] answers values = []
answer_at (r ∷ requests) [] values = []
answer_at (r ∷ requests) (a ∷ answers) values = cond (is_eq (row_cmp r values)) a (answer_at requests answers values)

-- each answer is that of its request, where the requests ascend
pub answers_at : (requests : RowList) (answers : List RowList) → IsStrictlySortedBy row_cmp requests → length answers ≡ length requests
    → answers ≡ map (answer_at requests answers) requests
unfolding IsStrictlySortedBy
answers_at [] [] up len = refl
answers_at [] (a ∷ answers) up len = absurd (omega arith)
answers_at (r ∷ requests) [] up len = absurd (omega arith)
answers_at (r ∷ requests) (a ∷ answers) up len =
    let own : row_cmp r r ≡ Equal = tied_itself rows_total r in
    let first : a ≡ cond (is_eq (row_cmp r r)) a (answer_at requests answers r) =
    ap (λ (o : Ordering). cond (is_eq o) a (answer_at requests answers r)) (sym own) in
    let rest : answers ≡ map (answer_at (r ∷ requests) (a ∷ answers)) requests =
    answers_at requests answers up.1 (omega arith)
    ∙ sym (map_same (answer_at (r ∷ requests) (a ∷ answers)) (answer_at requests answers) requests (λ v among. later v (above requests up.0 v among))) in
    λ i. first i ∷ rest i
  where
    later : (v : List (List ℕ)) → row_cmp r v ≡ Less → cond (is_eq (row_cmp r v)) a (answer_at requests answers v) ≡ answer_at requests answers v
    later v less = ap (λ (o : Ordering). cond (is_eq o) a (answer_at requests answers v)) less

    above : (xs : RowList) → AllByRecursion (λ y. row_cmp r y ≡ Less) xs → (v : List (List ℕ)) → Contains xs v → row_cmp r v ≡ Less
    above [] all v among = absurd (omega arith)
    above (x ∷ xs) all v among = elim (contains_cases x xs v among) [
      | inl here ↦ subst (λ y. row_cmp r y ≡ Less) here all.0
      | inr there ↦ above xs all.1 v there
    ]

-- lists of facts with the same facts of a relation give the same rows
pub picked_through : (facts others : List Fact) (rel : ℕ) (positions : List ℕ) (values : List (List ℕ)) → SameFacts rel facts others
    → (row : List (List ℕ)) → Contains (pick facts rel positions values) row ↔ Contains (pick others rel positions values) row
picked_through facts others rel positions values same row = (
  (λ c. let p = in_pick facts rel positions values row c in pick_in others rel positions values row ((same row).0 p.0) p.1),
  (λ c. let p = in_pick others rel positions values row c in pick_in facts rel positions values row ((same row).1 p.0) p.1),
)

-- answers that are those of the facts give the next partial rows
module _ (places : List Place) (method : Method) (facts : List Fact) (rows requests : RowList) (answers : List RowList)
    (up : IsStrictlySortedBy row_cmp requests) (are : AnswersFrom facts method requests answers)
    (there : (row : List (List ℕ)) → Contains rows row → Contains requests (input_row_of places method.inputs row)) where
  -- what a partial row's request is answered
  own_answer : (values row : List (List ℕ)) → Contains requests values
      → Contains (answer_at requests answers values) row ↔ Contains (pick facts method.rel method.inputs values) row
  own_answer values row among =
      let at : slice_get requests among.0 ≡ Some values = got_at requests values among in
      let is : slice_get answers among.0 ≡ Some (answer_at requests answers values) =
      ap (λ (l : List RowList). slice_get l among.0) (answers_at requests answers up are.len)
      ∙ map_got (answer_at requests answers) requests among.0 values at in
      are.each among.0 values (answer_at requests answers values) at is row
    where
      got_at : (xs : RowList) (x : List (List ℕ)) (c : Contains xs x) → slice_get xs c.0 ≡ Some x
      got_at xs x c = slice_get-get_or xs c.0 x c.1 ∙ ap (λ (y : List (List ℕ)). Some y) c.2

  pub answered_rows : (next : RowList)
      → ((row : List (List ℕ)) → Contains next row ↔ Contains (flat_map (λ r. grown places (answer_at requests answers (input_row_of places method.inputs r)) r) rows) row)
      → (row : List (List ℕ)) → Contains next row ↔ Contains (next_rows places method facts rows) row
  answered_rows next joined row = ((λ c. to ((joined row).0 c)), (λ c. (joined row).1 (back c)))
    where
      to : Contains (flat_map (λ r. grown places (answer_at requests answers (input_row_of places method.inputs r)) r) rows) row
          → Contains (next_rows places method facts rows) row
      to c =
          let (last, among, h) = joined_from (λ r. grown places (answer_at requests answers (input_row_of places method.inputs r)) r) rows row c in
          let (values, of, j) = grown_joins places (answer_at requests answers (input_row_of places method.inputs last)) last row h in
          let own = own_answer (input_row_of places method.inputs last) values (there last among) in
          contains_joined (λ r. grown places (pick facts method.rel method.inputs (input_row_of places method.inputs r)) r) rows last row among
          (joins_grown places (pick facts method.rel method.inputs (input_row_of places method.inputs last)) last row values (own.0 of) j)

      back : Contains (next_rows places method facts rows) row
          → Contains (flat_map (λ r. grown places (answer_at requests answers (input_row_of places method.inputs r)) r) rows) row
      back c =
          let (last, among, h) = joined_from (λ r. grown places (pick facts method.rel method.inputs (input_row_of places method.inputs r)) r) rows row c in
          let (values, of, j) = grown_joins places (pick facts method.rel method.inputs (input_row_of places method.inputs last)) last row h in
          let own = own_answer (input_row_of places method.inputs last) values (there last among) in
          contains_joined (λ r. grown places (answer_at requests answers (input_row_of places method.inputs r)) r) rows last row among
          (joins_grown places (answer_at requests answers (input_row_of places method.inputs last)) last row values (own.1 of) j)
