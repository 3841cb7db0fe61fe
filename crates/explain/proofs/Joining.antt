-- Texts that are written one behind another.
use Rattle.std.proofs.Common.{◌≡◌, ℕ, ◌+◌, ◌<◌, List, [], ◌∷◌, ◌++◌, length, map, take, refl, sym, ap, ◌∙◌, slice_index_or}
use Rattle.std.specs.Prelude.{flat_map}
use Rattle.std.proofs.lemmas.List.{take_more}
use Rattle.std.proofs.lemmas.List.FromFn.{map-range_with_len_more}
use Rattle.std.specs.List.{range_with_len}
use Rattle.fact_lines.proofs.Joining.{flat_more}

-- the text of numbers in order, with one more
pub range_more : {Y : Type 0} (f : Y → List ℕ) (g : ℕ → Y) (from n : ℕ) → flat_map f (map g (range_with_len from (n + 1))) ≡ flat_map f (map g (range_with_len from n)) ++ f (g (from + n))
range_more f g from n = ap (flat_map f) (map-range_with_len_more g from n (from + n) refl) ∙ flat_more f (map g (range_with_len from n)) (g (from + n))

-- the text of members, with one more
pub members_more : {X : Type 0} (f : X → List ℕ) (xs : List X) (i : ℕ) (x : X) → i < length xs → x ≡ slice_index_or xs i x → flat_map f (take (i + 1) xs) ≡ flat_map f (take i xs) ++ f x
members_more f xs i x l e = ap (flat_map f) (take_more xs i x l ∙ ap (λ y. take i xs ++ y ∷ []) (sym e)) ∙ flat_more f (take i xs) x
