-- Partial rows without doubles want the same requests and give the same next rows.
use Rattle.std.proofs.Common.{◌≡◌, ◌↔◌, ℕ, List, [], map, inr, ⊎_elim, subst, sym}
use Rattle.std.specs.Prelude.{Contains, flat_map}
use Rattle.std.specs.List.Sorted.{IsPermutation, IsStrictlySortedBy}
use Rattle.std.proofs.lemmas.List.Sorted.{Contains-permutation, IsPermutation-sym}
use Rattle.lists.proofs.Members.{contains_map, contains_mapped, contains_joined, contains_none, joined_from}
use Rattle.meaning.specs.declared.types.Place.{Place}
use Rattle.source_trait.specs.Asking.{RowList}
use Rattle.row_text.specs.RowText.{row_cmp}
use Rattle.middleware.specs.Branches.{HasAdded}
use Rattle.middleware.specs.Joining.{input_row_of}
use Rattle.middleware.specs.Rounds.{IsWanted}

map_within : {X Y : Type 0} (f : X → Y) (xs ys : List X) → ((x : X) → Contains xs x → Contains ys x) → (y : Y) → Contains (map f xs) y → Contains (map f ys) y
map_within f xs ys within y c =
    let (x, among, e) = contains_mapped f xs y c in
    subst (Contains (map f ys)) e (contains_map f ys x (within x among))

-- rows that were put in another order
pub moved_same : {X : Type 0} (f : X → List (List ℕ)) (members moved : List X) (rows list : RowList) → map f members ≡ rows → IsPermutation members moved → HasAdded [] (map f moved) list
    → (row : List (List ℕ)) → Contains list row ↔ Contains rows row
moved_same f members moved rows list is permuted added row = (
  (λ c. ⊎_elim
      (λ none. absurd (contains_none row none))
      (λ d. subst (λ (l : RowList). Contains l row) is
      (map_within f moved members (λ x e. Contains-permutation moved members x (IsPermutation-sym members moved permuted) e) row d))
      ((added row).0 c)),
  (λ c. (added row).1 (inr (map_within f members moved (λ x e. Contains-permutation members moved x permuted e) row (subst (λ (l : RowList). Contains l row) (sym is) c)))),
)

flat_within : {X Y : Type 0} (f : X → List Y) (xs ys : List X) → ((x : X) → Contains xs x → Contains ys x) → (y : Y) → Contains (flat_map f xs) y → Contains (flat_map f ys) y
flat_within f xs ys within y c =
    let (x, among, there) = joined_from f xs y c in
    contains_joined f ys x y (within x among) there

module _ (rows distinct : RowList) (same : (row : List (List ℕ)) → Contains distinct row ↔ Contains rows row) where
  pub wanted_same : (places : List Place) (inputs : List ℕ) (list : RowList) → IsWanted places inputs distinct list → IsWanted places inputs rows list
  wanted_same places inputs list wanted = record {
    ascends = wanted.ascends;
    same = λ values. (
      (λ c. map_within (input_row_of places inputs) distinct rows (λ row. (same row).0) values ((wanted.same values).0 c)),
      (λ c. (wanted.same values).1 (map_within (input_row_of places inputs) rows distinct (λ row. (same row).1) values c)),
    );
  }

  -- the rows that joins give
  pub joined_same : (f : List (List ℕ) → RowList) (row : List (List ℕ)) → Contains (flat_map f distinct) row ↔ Contains (flat_map f rows) row
  joined_same f row = ((λ c. flat_within f distinct rows (λ r. (same r).0) row c), (λ c. flat_within f rows distinct (λ r. (same r).1) row c))

-- the distinct ones of the requests of some rows
pub wanted_of : (places : List Place) (inputs : List ℕ) (rows asked list : RowList) → HasAdded [] (map (input_row_of places inputs) rows) asked
    → IsStrictlySortedBy row_cmp list → ((values : List (List ℕ)) → Contains list values ↔ Contains asked values) → IsWanted places inputs rows list
wanted_of places inputs rows asked list is ascends members = record {
  ascends = ascends;
  same = λ values. (
    (λ c. ⊎_elim (λ none. absurd (contains_none values none)) (λ d. d) ((is values).0 ((members values).0 c))),
    (λ d. (members values).1 ((is values).1 (inr d))),
  );
}
