-- The turns of a loop over the members of a list.
use Rattle.std.proofs.Common.{◌≡◌, ◌↔◌, ◌⊎◌, ℕ, ◌+◌, ◌<◌, ◌≤◌, true, false, IsTrue, List, [], length, refl, subst, ⊎_elim, Contains, take, slice_index_or, get_or}
use Rattle.std.proofs.lemmas.List.{take_all, get_or_default}
use Rattle.std.proofs.lemmas.List.Elements.{Contains-push_cases}
use Rattle.lists.proofs.Members.{contains_none}
use Rattle.lists.proofs.Places.{take_indexed}

-- P holds of each member
abbrev pub EachOf : {X : Type 0} → (X → Type 0) → List X → Type 0
EachOf {X} P xs = (x : X) → Contains xs x → P x

-- a number that a loop reads
pub number_is : (xs : List ℕ) (i : ℕ) → i < length xs → get_or xs i 0 ≡ get_or xs i (get_or xs i 0)
number_is xs i l = get_or_default xs i 0 (get_or xs i 0) l

pub turn_cases : {X : Type 0} (xs : List X) (i : ℕ) (x y : X) → i < length xs → x ≡ slice_index_or xs i x → Contains (take (i + 1) xs) y → Contains (take i xs) y ⊎ (x ≡ y)
turn_cases xs i x y l e c = Contains-push_cases (take i xs) x y (subst (λ zs. Contains zs y) (take_indexed xs i x l e) c)

pub each_none : {X : Type 0} (P : X → Type 0) → EachOf P []
each_none P x c = absurd (contains_none x c)

pub each_more : {X : Type 0} (P : X → Type 0) (xs : List X) (i : ℕ) (x : X) → i < length xs → x ≡ slice_index_or xs i x → EachOf P (take i xs) → P x → EachOf P (take (i + 1) xs)
each_more P xs i x l e before here y c = ⊎_elim (λ h. before y h) (λ f. subst P f here) (turn_cases xs i x y l e c)

pub each_all : {X : Type 0} (P : X → Type 0) (xs : List X) (i : ℕ) → length xs ≤ i → EachOf P (take i xs) → EachOf P xs
each_all P xs i l h = subst (λ ys. EachOf P ys) (take_all i xs l) h

-- what a test says
pub true_says : {P : Type 0} → (IsTrue true ↔ P) → P
true_says is = is.0 refl

pub false_says : {P : Type 0} → (IsTrue false ↔ P) → P → ⊥
false_says is p = let t : false ≡ true = is.1 p in absurd (cc)
