-- The orders of keys and facts tell any two apart.
use Rattle.std.proofs.Common.{◌≡◌, List, [], ◌∷◌, false, refl, sym, ap, ◌∙◌, inl, inr, ◌⊎◌}
use Rattle.std.specs.Cmp.{IsTotalOrder}
use Rattle.std.specs.Cmp.Lexicographic.{slice_cmp}
use Rattle.std.specs.Ordering.{nat_cmp, ordering_then, is_eq}
use Rattle.std.specs.BTreeMap.{is_at}
use Rattle.std.specs.declared.cmp.Ordering.{Ordering}
use Rattle.std.specs.declared.cmp.Ordering.TheVariants.{Less, Equal, Greater}
use Rattle.std.proofs.lemmas.Cmp.{tied_itself}
use Rattle.std.proofs.lemmas.Map.Lookups.{CmpEqualImpliesEq, exact_unsigned, exact_bytes}
use Rattle.meaning.specs.declared.types.Val.{Val}
use Rattle.meaning.specs.declared.types.Val.TheVariants.{Const, Label}
use Rattle.meaning.specs.declared.types.Ground.{Ground}
use Rattle.meaning.specs.contracts.types.ValOrd.TheImpl as val_ord
use Rattle.meaning.specs.contracts.types.GroundOrd.TheImpl as ground_ord
use Rattle.homomorphism.specs.declared.key.Key.{Key}
use Rattle.homomorphism.specs.declared.key.Key.TheVariants.{Relation, Value}
use Rattle.homomorphism.specs.contracts.key.KeyOrd.TheImpl.Laws.{total-law as key_law}
use Rattle.homomorphism.specs.Listed.{key_cmp}

both_equal : (a b : Ordering) → ordering_then a b ≡ Equal → (a ≡ Equal) × (b ≡ Equal)
both_equal Less b e = absurd (cc)
both_equal Equal b e = (refl, e)
both_equal Greater b e = absurd (cc)

exact_lists : {K : Type 0} (R : K → K → Ordering) → CmpEqualImpliesEq R → (xs ys : List K) → slice_cmp R xs ys ≡ Equal → xs ≡ ys
exact_lists R exact [] [] e = refl
exact_lists R exact [] (y ∷ ys) e = absurd (cc)
exact_lists R exact (x ∷ xs) [] e = absurd (cc)
exact_lists R exact (x ∷ xs) (y ∷ ys) e =
    let (first, rest) = both_equal (R x y) (slice_cmp R xs ys) e in
    let here : x ≡ y = exact x y first in
    let more : xs ≡ ys = exact_lists R exact xs ys rest in
    cc

val_exact : (v w : Val) → (val_ord.ghosts).cmp v w ≡ Equal → v ≡ w
val_exact (Const c) (Const d) e = ap Const (exact_bytes c d e)
val_exact (Const c) (Label k) e = absurd (unlike e)
  where
    unlike : Less ≡ Equal → ⊥
    unlike e = cc
val_exact (Label j) (Const d) e = absurd (unlike e)
  where
    unlike : Greater ≡ Equal → ⊥
    unlike e = cc
val_exact (Label j) (Label k) e = ap Label (exact_unsigned j k e)

pub ground_exact : (f g : Ground) → (ground_ord.ghosts).cmp f g ≡ Equal → f ≡ g
ground_exact f g e =
    let (r, v) = both_equal (nat_cmp f.rel g.rel) (slice_cmp (val_ord.ghosts).cmp f.vals g.vals) e in
    let rel : f.rel ≡ g.rel = exact_unsigned f.rel g.rel r in
    let vals : f.vals ≡ g.vals = exact_lists (val_ord.ghosts).cmp val_exact f.vals g.vals v in
    λ i. record { rel = rel i; vals = vals i }

pub key_exact : (x y : Key) → key_cmp x y ≡ Equal → x ≡ y
key_exact (Relation r) (Relation s) e = ap Relation (exact_unsigned r s e)
key_exact (Relation r) (Value s p v) e = absurd (unlike e)
  where
    unlike : Less ≡ Equal → ⊥
    unlike e = cc
key_exact (Value r p v) (Relation s) e = absurd (unlike e)
  where
    unlike : Greater ≡ Equal → ⊥
    unlike e = cc
key_exact (Value r p v) (Value s q w) e =
    let (first, rest) = both_equal (nat_cmp r s) (ordering_then (nat_cmp p q) ((val_ord.ghosts).cmp v w)) e in
    let (second, third) = both_equal (nat_cmp p q) ((val_ord.ghosts).cmp v w) rest in
    let rel : r ≡ s = exact_unsigned r s first in
    let position : p ≡ q = exact_unsigned p q second in
    let val : v ≡ w = val_exact v w third in
    cc

pub key_total : IsTotalOrder key_cmp
key_total = key_law

pub key_apart : (x y : Key) → (y ≡ x → ⊥) → is_at (key_cmp x) y ≡ false
key_apart x y differ = by (key_cmp x y) refl
  where
    by : (o : Ordering) → key_cmp x y ≡ o → is_eq o ≡ false
    by Less e = refl
    by Equal e = absurd (differ (sym (key_exact x y e)))
    by Greater e = refl

-- whether two keys are the same
pub key_cases : (x y : Key) → (y ≡ x) ⊎ (y ≡ x → ⊥)
key_cases x y = by (key_cmp x y) refl
  where
    less : Less ≡ Equal → ⊥
    less e = cc

    greater : Greater ≡ Equal → ⊥
    greater e = cc

    itself : y ≡ x → key_cmp x y ≡ Equal
    itself same = ap (key_cmp x) same ∙ tied_itself key_total x

    by : (o : Ordering) → key_cmp x y ≡ o → (y ≡ x) ⊎ (y ≡ x → ⊥)
    by Less e = inr (λ same. less (sym e ∙ itself same))
    by Equal e = inl (sym (key_exact x y e))
    by Greater e = inr (λ same. greater (sym e ∙ itself same))
