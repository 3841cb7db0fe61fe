-- A list that is taken member by member, until there is none.
use Rattle.std.proofs.Common.{◌≡◌, ◌<◌, ◌≤◌, ◌+◌, ◌∙◌, sym, ap, ℕ, List, [], ◌∷◌, ◌++◌, length, take, Some, None, ⊎_elim, arith, slice_get}
use Rattle.std.proofs.lemmas.Bool.{cases_lt}
use Rattle.std.proofs.lemmas.List.{take_more, take_all}
use Rattle.std.proofs.lemmas.Option.{slice_get_within, get_or_from_slice_get}
use Rattle.lists.proofs.Members.{got_below}

-- one more member
pub taken_more : {X : Type 0} (xs front more : List X) (n m : ℕ) (x y : X) → front ≡ take n xs → Some x ≡ slice_get xs n → y ≡ x → more ≡ front ++ y ∷ [] → m ≡ n + 1 → (more ≡ take m xs) × (m ≤ length xs)
taken_more xs front more n m x y first at same is next =
    let within : n < length xs = slice_get_within xs n x (sym at) in
    let one : take (n + 1) xs ≡ take n xs ++ x ∷ [] = take_more xs n x within ∙ ap (λ z. take n xs ++ z ∷ []) (get_or_from_slice_get xs n x x (sym at)) in
    let all : take m xs ≡ take (n + 1) xs = ap (λ k. take k xs) next in
    (is ∙ ap (λ l. l ++ y ∷ []) first ∙ ap (λ z. take n xs ++ z ∷ []) same ∙ sym one ∙ sym all, omega arith)

-- no more
pub taken_all : {X : Type 0} (xs front : List X) (n : ℕ) → front ≡ take n xs → None ≡ slice_get xs n → front ≡ xs
taken_all xs front n first none = ⊎_elim
    (λ (less : n < length xs). absurd (let (x, there) = got_below xs n less in cc))
    (λ (more : length xs ≤ n). first ∙ take_all n xs more)
    (cases_lt n (length xs))
