-- The only answer of a round that only makes new columns is what the empty partial row grows to.
use Rattle.std.proofs.Common.{◌≡◌, ◌∙◌, ℕ, List, [], ◌∷◌, ◌++◌, length, map, Some, ◌⊎◌, inl, inr, refl, sym, ap, subst, arith}
use Rattle.std.specs.Prelude.{Contains, flat_map}
use Rattle.std.proofs.lemmas.List.{append-nil, append_assoc}
use Rattle.meaning.specs.declared.types.Place.{Place}
use Rattle.source_trait.specs.Asking.{HaveArity, RowList}
use Rattle.lists.proofs.Members.{contains_cases}
use Rattle.middleware.specs.Joining.{joined, grown, input_row_of}
use Rattle.middleware.specs.WholeAnswer.{AreNew, GrowsToAnswer}

joined_new : (places : List Place) (values row : List (List ℕ)) → AreNew places → length values ≡ length places → joined places values row ≡ Some (row ++ values)
joined_new [] [] row new fit = ap Some (sym (append-nil row))
joined_new [] (value ∷ values) row new fit = absurd (omega (arith, fit))
joined_new (place ∷ places) [] row new fit = absurd (omega (arith, fit))
joined_new (place ∷ places) (value ∷ values) row new fit =
    subst (λ (p : Place). joined (p ∷ places) (value ∷ values) row ≡ Some (row ++ value ∷ values)) (sym new.0)
    (joined_new places values (row ++ value ∷ []) new.1 (omega (arith, fit)) ∙ ap Some (append_assoc row (value ∷ []) values))

grown_new : (places : List Place) (answer : RowList) → AreNew places → HaveArity (length places) answer → grown places answer [] ≡ answer
grown_new places [] new fit = refl
grown_new places (values ∷ answer) new fit = rw (joined_new places values [] new fit.0) (ap (λ (l : RowList). values ∷ l) (grown_new places answer new fit.1))

-- the one list that is the answer to the one request
pub answer_is : (f : List (List ℕ) → RowList) (requests : RowList) (answer : RowList) (values : List (List ℕ)) → answer ∷ [] ≡ map f requests → Contains requests values → answer ≡ f values
answer_is f [] answer values is among = absurd (cc)
answer_is f (request ∷ []) answer values is among = here (contains_cases request [] values among)
  where
    here : (request ≡ values) ⊎ Contains [] values → answer ≡ f values
    here (inl same) = let first : answer ≡ f request = cc in first ∙ ap f same
    here (inr (k, l, e)) = absurd (omega (arith, l))
answer_is f (request ∷ other ∷ requests) answer values is among = absurd (cc)

pub grows_to : (places : List Place) (inputs : List ℕ) (requests : RowList) (answers : List RowList) (rows : RowList) (f : List (List ℕ) → RowList) (taken : RowList)
    → GrowsToAnswer places answers rows → answers ≡ map f requests
    → ((row : List (List ℕ)) → Contains rows row → Contains requests (input_row_of places inputs row))
    → ((answer : RowList) → answers ≡ answer ∷ [] → taken ≡ answer)
    → taken ≡ flat_map (λ row. grown places (f (input_row_of places inputs row)) row) rows
grows_to places inputs requests answers rows f taken grows is asked takes =
    let among : Contains requests (input_row_of places inputs []) = asked [] (subst (λ (l : RowList). Contains l []) (sym grows.first) (0, omega arith, refl)) in
    let answer : grows.answer ≡ f (input_row_of places inputs []) = answer_is f requests grows.answer (input_row_of places inputs []) (sym grows.only ∙ is) among in
    rw grows.first (takes grows.answer grows.only ∙ sym (grown_new places grows.answer grows.new grows.fit)
    ∙ ap (λ (l : RowList). grown places l []) answer
    ∙ sym (append-nil (grown places (f (input_row_of places inputs [])) [])))

pub first_is : (rows : RowList) → length rows ≡ 1 → HaveArity 0 rows → rows ≡ [] ∷ []
first_is [] one fit = absurd (omega (arith, one))
first_is ([] ∷ []) one fit = refl
first_is ((value ∷ row) ∷ rows) one fit = absurd (omega (arith, fit.0))
first_is ([] ∷ row ∷ rows) one fit = absurd (omega (arith, one))
