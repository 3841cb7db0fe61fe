-- Rows that are compared value by value.
use Rattle.std.proofs.Common.{◌≡◌, ◌≤◌, ◌+◌, ◌-◌, ◌++◌, ◌⊎◌, ◌∙◌, ℕ, zero, suc, List, [], ◌∷◌, Bool, true, false, None, Some, get_or, slice_get, drop, take, map, length, refl, sym, ap, inl, inr, ⊎_elim, arith}
use Rattle.std.specs.Prelude.{not}
use Rattle.std.specs.Ordering.{nat_cmp, ordering_then}
use Rattle.std.specs.Cmp.Lexicographic.{slice_cmp}
use Rattle.std.specs.declared.cmp.Ordering.{Ordering}
use Rattle.std.specs.declared.cmp.Ordering.TheVariants.{Less, Equal, Greater}
use Rattle.std.specs.Cmp.{nat_cmp_is}
use Rattle.std.proofs.lemmas.List.{append-nil, append_assoc, length-append, length-drop, length-map, length-take, take_all}
use Rattle.std.proofs.lemmas.Option.{slice_get_within}
use Rattle.lists.proofs.Members.{some_injective}
use Rattle.lists.proofs.Places.{take_got, got_none}
use Rattle.lists.proofs.Booleans.{denied_false}
use Rattle.row_text.specs.RowText.{row_cmp}

-- the member of a place stands before what follows it, and behind what goes before
pub drop_got : {X : Type 0} (xs : List X) (k : ℕ) (x : X) → slice_get xs k ≡ Some x → drop k xs ≡ x ∷ drop (k + 1) xs
drop_got [] k x e = absurd (cc)
drop_got (y ∷ xs) zero x e = ap (λ z. z ∷ xs) (some_injective y x e)
drop_got (y ∷ xs) (suc k) x e = let step : suc k + 1 ≡ suc (k + 1) = omega arith in rw step (drop_got xs k x e)

-- rows compare as their values at a place do, and as the rest where these are equal
pub rows_step : (left right : List (List ℕ)) (k : ℕ) (x y : List ℕ) → slice_get left k ≡ Some x → slice_get right k ≡ Some y
    → row_cmp (drop k left) (drop k right) ≡ ordering_then (slice_cmp nat_cmp x y) (row_cmp (drop (k + 1) left) (drop (k + 1) right))
rows_step left right k x y l r = rw (drop_got left k x l, drop_got right k y r) refl

pub then_other : (o p : Ordering) → (o ≡ Equal → ⊥) → ordering_then o p ≡ o
then_other Less p other = refl
then_other Equal p other = absurd (other refl)
then_other Greater p other = refl

pub then_equal : (o p : Ordering) → o ≡ Equal → ordering_then o p ≡ p
then_equal Less p e = absurd (cc)
then_equal Equal p e = refl
then_equal Greater p e = absurd (cc)

-- no member stands at a place behind all
-- where one of the rests is empty, rows compare as their lengths do
ended : (xs ys : List (List ℕ)) (m n k : ℕ) → m ≡ k + length xs → n ≡ k + length ys → (length xs ≡ 0) ⊎ (length ys ≡ 0) → row_cmp xs ys ≡ nat_cmp m n
ended [] [] m n k l r e = nat_cmp_is m n Equal (omega (arith, l, r))
ended [] (y ∷ ys) m n k l r e = nat_cmp_is m n Less (omega (arith, l, r))
ended (x ∷ xs) [] m n k l r e = nat_cmp_is m n Greater (omega (arith, l, r))
ended (x ∷ xs) (y ∷ ys) m n k l r e = absurd (⊎_elim (λ (h : length (x ∷ xs) ≡ 0). omega (arith, h)) (λ (h : length (y ∷ ys) ≡ 0). omega (arith, h)) e)

pub rows_ended : (left right : List (List ℕ)) (k : ℕ) → k ≤ length left → k ≤ length right → (slice_get left k ≡ None) ⊎ (slice_get right k ≡ None)
    → row_cmp (drop k left) (drop k right) ≡ nat_cmp (length left) (length right)
rows_ended left right k low high e =
    ended (drop k left) (drop k right) (length left) (length right) k (omega (arith, length-drop k left, low)) (omega (arith, length-drop k right, high))
    (⊎_elim (λ n. inl (omega (arith, length-drop k left, low, got_none left k n))) (λ n. inr (omega (arith, length-drop k right, high, got_none right k n))) e)

-- a list that begins with the first members of another, and the same with one member more
pub prefix_step : {X : Type 0} (f : X → List ℕ) (all self : List (List ℕ)) (left : List X) (d : X) (k : ℕ) (x : List ℕ)
    → all ≡ take k self ++ map f left → slice_get self k ≡ Some x → 1 ≤ length left → x ≡ f (get_or left 0 d)
    → all ≡ take (k + 1) self ++ map f (take (length left - 1) (drop 1 left))
prefix_step f all self [] d k x begins got some same = absurd (omega (arith, some))
prefix_step f all self (y ∷ rest) d k x begins got some same =
    let size : length (y ∷ rest) - 1 ≡ length rest = omega arith in
    let whole : take (length (y ∷ rest) - 1) rest ≡ rest = rw size (take_all (length rest) rest (omega arith)) in
    begins
    ∙ ap (λ (z : List ℕ). take k self ++ z ∷ map f rest) (sym same)
    ∙ sym (append_assoc (take k self) (x ∷ []) (map f rest))
    ∙ ap (λ (l : List (List ℕ)). l ++ map f rest) (sym (take_got self k x got))
    ∙ ap (λ l. take (k + 1) self ++ map f l) (sym whole)

-- where nothing follows all members, the lists are the same
pub prefix_all : {X : Type 0} (f : X → List ℕ) (all self : List (List ℕ)) (left : List X) (k : ℕ)
    → all ≡ take k self ++ map f left → k ≡ length self → length left ≡ 0 → self ≡ all
prefix_all f all self [] k begins whole none = sym (begins ∙ append-nil (take k self) ∙ take_all k self (omega arith))
prefix_all f all self (y ∷ rest) k begins whole none = absurd (omega arith)

-- where such lists are the same, they go on as long, and with the same member
pub rest_length : {X : Type 0} (f : X → List ℕ) (all self : List (List ℕ)) (left : List X) (k : ℕ)
    → all ≡ take k self ++ map f left → k ≤ length self → self ≡ all → k + length left ≡ length self
rest_length f all self left k begins within same =
    omega (arith, ap length (same ∙ begins), length-append (take k self) (map f left), length-take k self, length-map left f)

got_behind : {X : Type 0} (xs : List X) (k : ℕ) (y : X) (ys : List X) → k ≤ length xs → slice_get (take k xs ++ y ∷ ys) k ≡ Some y
got_behind xs zero y ys within = refl
got_behind [] (suc k) y ys within = absurd (omega arith)
got_behind (x ∷ xs) (suc k) y ys within = got_behind xs k y ys (omega arith)

pub rest_head : {X : Type 0} (f : X → List ℕ) (all self : List (List ℕ)) (left : List X) (d : X) (k : ℕ) (x : List ℕ)
    → all ≡ take k self ++ map f left → slice_get self k ≡ Some x → 1 ≤ length left → self ≡ all → x ≡ f (get_or left 0 d)
rest_head f all self [] d k x begins got some same = absurd (omega (arith, some))
rest_head f all self (y ∷ rest) d k x begins got some same =
    some_injective x (f y)
    (sym got ∙ ap (λ l. slice_get l k) (same ∙ begins) ∙ got_behind self k (f y) (map f rest) (omega (arith, slice_get_within self k x got)))

pub not_true : (b : Bool) → true ≡ not b → false ≡ b
not_true true e = absurd (cc)
not_true false e = refl
