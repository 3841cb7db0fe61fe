-- Texts that are written one behind another.
use Rattle.std.proofs.Common.{◌≡◌, ℕ, ◌+◌, ◌<◌, List, [], ◌∷◌, ◌++◌, length, map, take, sym, ap, ◌∙◌, slice_index_or}
use Rattle.std.specs.Prelude.{flat_map}
use Rattle.std.proofs.lemmas.List.{take_more, map-append, append-nil}
use Rattle.std.proofs.lemmas.Grind.{flat_map-append}
use Rattle.lists.proofs.Members.{joined_twice}
use Rattle.lists.proofs.Places.{take_indexed}

-- what is written behind something else
pub flat_more : {X : Type 0} (f : X → List ℕ) (xs : List X) (x : X) → flat_map f (xs ++ x ∷ []) ≡ flat_map f xs ++ f x
flat_more f xs x = flat_map-append f xs (x ∷ []) ∙ ap (λ (r : List ℕ). flat_map f xs ++ r) (append-nil (f x))

-- the text of the members before a place, with the one there
pub flat_taken : {X : Type 0} (f : X → List ℕ) (xs : List X) (i : ℕ) (x : X) → i < length xs → x ≡ slice_index_or xs i x → flat_map f (take (i + 1) xs) ≡ flat_map f (take i xs) ++ f x
flat_taken f xs i x l e = ap (flat_map f) (take_indexed xs i x l e) ∙ flat_more f (take i xs) x

-- the text of members that are lent, with one more
pub lent_more : {X Y : Type 0} (f : Y → List ℕ) (g : X → Y) (xs : List X) (i : ℕ) (x : X) → i < length xs → x ≡ slice_index_or xs i x →
    flat_map f (map g (take (i + 1) xs)) ≡ flat_map f (map g (take i xs)) ++ f (g x)
lent_more f g xs i x l e =
    ap (λ (ys : List _). flat_map f (map g ys)) (take_more xs i x l ∙ ap (λ y. take i xs ++ y ∷ []) (sym e))
    ∙ ap (flat_map f) (map-append g (take i xs) (x ∷ [])) ∙ flat_more f (map g (take i xs)) (g x)

-- a loop's text with one member more
pub grown : (old mid new front more whole : List ℕ) → mid ≡ old ++ front → new ≡ mid ++ more → whole ≡ front ++ more → new ≡ old ++ whole
grown old mid new front more whole one two is = joined_twice old mid new front more one two ∙ ap (λ (r : List ℕ). old ++ r) (sym is)
