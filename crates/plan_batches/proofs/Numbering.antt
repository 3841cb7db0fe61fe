-- Requests by their numbers.
use Rattle.std.proofs.Common.{◌≡◌, ℕ, zero, suc, ◌<◌, List, [], ◌∷◌, ◌++◌, length, Option, Some, refl, sym, ◌∙◌, ap, subst}
use Rattle.std.specs.Prelude.{Contains, slice_get}
use Rattle.std.proofs.lemmas.List.{length-map, map-append}
use Rattle.std.proofs.lemmas.Option.{slice_get_within}
use Rattle.lists.proofs.Members.{contains_got, contains_map, contains_mapped, got_before, got_mapped, map_got, map_same, some_injective}
use Rattle.meaning.specs.declared.types.Request.{Request}
use Rattle.meaning.specs.Search.{AreDistinct}
use Rattle.shared_rounds.specs.Books.{AreNumbers}

-- no two places of distinct members have the same one
pub one_place : {X : Type 0} (xs : List X) → AreDistinct xs → (i j : ℕ) (x : X) → slice_get xs i ≡ Some x → slice_get xs j ≡ Some x → i ≡ j
one_place [] d i j x a b = absurd (cc)
one_place (y ∷ xs) d zero zero x a b = refl
one_place (y ∷ xs) d zero (suc j) x a b =
    absurd (d.0 (subst (λ z. Contains xs z) (sym (some_injective y x a)) (contains_got xs j x b)))
one_place (y ∷ xs) d (suc i) zero x a b =
    absurd (d.0 (subst (λ z. Contains xs z) (sym (some_injective y x b)) (contains_got xs i x a)))
one_place (y ∷ xs) d (suc i) (suc j) x a b = ap suc (one_place xs d.1 i j x a b)

module _ (asked : List Request) where
  -- the request of a number
  pub its_request : (requests : List Request) (numbers : List ℕ) → AreNumbers asked requests numbers → (n : ℕ) → Contains numbers n
      → (request : Request) × Contains requests request × (slice_get asked n ≡ Some request)
  its_request requests numbers are n c =
      let d = subst (λ (l : List (Option Request)). Contains l (slice_get asked n)) are (contains_map (slice_get asked) numbers n c) in
      let (request, among, is) = contains_mapped (λ (r : Request). Some r) requests (slice_get asked n) d in
      (request, among, sym is)

  -- the number of a request
  pub its_number : (requests : List Request) (numbers : List ℕ) → AreNumbers asked requests numbers → (request : Request) → Contains requests request
      → (n : ℕ) × Contains numbers n × (slice_get asked n ≡ Some request)
  its_number requests numbers are request c =
      let d = subst (λ (l : List (Option Request)). Contains l (Some request)) (sym are) (contains_map (λ (r : Request). Some r) requests request c) in
      contains_mapped (slice_get asked) numbers (Some request) d

  -- the number at a request's place
  pub number_at : (requests : List Request) (numbers : List ℕ) → AreNumbers asked requests numbers → (k : ℕ) (request : Request)
      → slice_get requests k ≡ Some request → (n : ℕ) × (slice_get numbers k ≡ Some n) × (slice_get asked n ≡ Some request)
  number_at requests numbers are k request at =
      let d = subst (λ (l : List (Option Request)). slice_get l k ≡ Some (Some request)) (sym are) (map_got (λ (r : Request). Some r) requests k request at) in
      got_mapped (slice_get asked) numbers k (Some request) d

  pub numbers_long : (requests : List Request) (numbers : List ℕ) → AreNumbers asked requests numbers → length numbers ≡ length requests
  numbers_long requests numbers are =
      sym (length-map numbers (slice_get asked)) ∙ ap length are ∙ length-map requests (λ (r : Request). Some r)

  pub number_below : (requests : List Request) (numbers : List ℕ) → AreNumbers asked requests numbers → (n : ℕ) → Contains numbers n → n < length asked
  number_below requests numbers are n c =
      let (request, among, at) = its_request requests numbers are n c in slice_get_within asked n request at

  -- the numbers stay where more is asked
  pub numbers_later : (more : List Request) (requests : List Request) (numbers : List ℕ) → AreNumbers asked requests numbers
      → AreNumbers (asked ++ more) requests numbers
  numbers_later more requests numbers are =
      map_same (slice_get (asked ++ more)) (slice_get asked) numbers (λ n c. got_before asked more n (number_below requests numbers are n c)) ∙ are

  pub numbers_both : (a b : List Request) (m n : List ℕ) → AreNumbers asked a m → AreNumbers asked b n → AreNumbers asked (a ++ b) (m ++ n)
  numbers_both a b m n first second =
      map-append (slice_get asked) m n ∙ (λ i. first i ++ second i) ∙ sym (map-append (λ (r : Request). Some r) a b)
