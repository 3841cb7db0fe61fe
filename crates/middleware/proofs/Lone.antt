-- Answers whose rows were put in another order.
use Rattle.std.proofs.Common.{◌≡◌, ◌↔◌, ◌∙◌, ◌<◌, ℕ, zero, suc, List, [], ◌∷◌, length, get_or, refl, sym, subst, arith}
use Rattle.std.specs.Prelude.{Contains, slice_set}
use Rattle.std.proofs.lemmas.Option.{slice_get_within, get_or_from_slice_get}
use Rattle.lists.proofs.Members.{got_below}
use Rattle.meaning.specs.declared.types.Fact.{Fact}
use Rattle.meaning.specs.declared.types.Method.{Method}
use Rattle.source_trait.specs.Asking.{RowList}
use Rattle.middleware.specs.Joining.{HaveSameRows}
use Rattle.middleware.specs.LaneAsking.{AnswersFrom}

pub same_answers : (answers : List RowList) → HaveSameRows answers answers
same_answers answers = record { len = refl; each = λ k row. ((λ c. c), (λ c. c)) }

-- the first answer in another order
first_moved : (answers : List RowList) (moved : RowList) → ((row : List (List ℕ)) → Contains moved row ↔ Contains (get_or answers 0 []) row) → HaveSameRows answers (slice_set answers 0 moved)
first_moved [] moved same = same_answers []
first_moved (answer ∷ answers) moved same = record { len = refl; each = each }
  where
    each : (k : ℕ) (row : List (List ℕ)) → Contains (get_or (moved ∷ answers) k []) row ↔ Contains (get_or (answer ∷ answers) k []) row
    each zero row = same row
    each (suc k) row = ((λ c. c), (λ c. c))

-- the only answer in another order
pub lone_moved : (answers others : List RowList) (all moved : RowList) → length answers ≡ 1 → ((answer : RowList) → answers ≡ answer ∷ [] → all ≡ answer) → others ≡ moved ∷ []
    → ((row : List (List ℕ)) → Contains moved row ↔ Contains all row) → HaveSameRows answers others
lone_moved [] others all moved one whole made same = absurd (omega (arith, one))
lone_moved (answer ∷ []) others all moved one whole made same =
    let is : all ≡ answer = whole answer refl in
    subst (λ (l : List RowList). HaveSameRows (answer ∷ []) l) (sym made)
    (first_moved (answer ∷ []) moved (λ row. subst (λ (l : RowList). Contains moved row ↔ Contains l row) is (same row)))
lone_moved (answer ∷ other ∷ answers) others all moved one whole made same = absurd (omega (arith, one))

-- they are from the same facts
pub answers_moved : (facts : List Fact) (method : Method) (requests : RowList) (answers others : List RowList) → HaveSameRows answers others → AnswersFrom facts method requests answers
    → AnswersFrom facts method requests others
answers_moved facts method requests answers others same from = record {
  len = same.len ∙ from.len;
  each = λ k values rows at rows_at row.
      let within : k < length answers = let w = slice_get_within others k rows rows_at in let l = same.len in omega arith in
      let (answer, got) = got_below answers k within in
      let moved = same.each k row in
      let told = from.each k values answer at got row in
      let one : get_or others k [] ≡ rows = get_or_from_slice_get others k rows [] rows_at in
      let other : get_or answers k [] ≡ answer = get_or_from_slice_get answers k answer [] got in (
        (λ c. told.0 (subst (λ (l : RowList). Contains l row) other (moved.0 (subst (λ (l : RowList). Contains l row) (sym one) c)))),
        (λ c. subst (λ (l : RowList). Contains l row) one (moved.1 (subst (λ (l : RowList). Contains l row) (sym other) (told.1 c)))),
      );
}
