-- Relations with rows in ascending order, each once: what sorting and dropping doubles leaves of an instance.
use Rattle.std.proofs.Common.{◌≡◌, ℕ, List, [], ◌∷◌, map, Bool, true, ◌&&◌, refl, sym, ap, ◌∙◌, subst}
use Rattle.std.specs.Prelude.{Contains, nat_eq}
use Rattle.std.specs.List.{dedup}
use Rattle.std.specs.List.Sorted.{IsPermutation, IsSorted, IsStrictlySortedBy}
use Rattle.std.specs.Ordering.{nat_cmp, ordering_then, eq_by_cmp}
use Rattle.std.specs.Cmp.{IsTotalOrder, IsEquivalence, on_equiv, and_equiv, both_tied, unsigned_tied}
use Rattle.std.specs.Cmp.Lexicographic.{slice_cmp, pointwise}
use Rattle.std.specs.declared.cmp.Ordering.{Ordering}
use Rattle.std.specs.declared.cmp.Ordering.TheVariants.{Less, Equal}
use Rattle.std.proofs.lemmas.Bool.{eqb-true}
use Rattle.std.proofs.lemmas.Cmp.{tied_itself, then_total, on_total, nat_cmp_total, nat_eq_equiv}
use Rattle.std.proofs.lemmas.List.Kept.{Contains-dedup, Contains-from_dedup, IsStrictlySortedBy-dedup}
use Rattle.std.proofs.lemmas.List.Sorted.{Contains-permutation, IsPermutation-sym}
use Rattle.lists.proofs.Members.{contains_map, contains_mapped, all_member}
use Rattle.lists.proofs.Orders.{rows_equiv, rows_same_equal, rows_ties, rows_total}
use Rattle.lists.proofs.Booleans.{both_true}
use Rattle.meaning.specs.declared.types.Fact.{Fact}
use Rattle.meaning.specs.declared.types.Val.TheVariants.{Const}
use Rattle.meaning.specs.declared.types.Ground.{Ground}
use Rattle.meaning.specs.Search.{AreDistinct}
use Rattle.homomorphism.specs.Instances.{ground_of, pair_of, ground_pair, AreFactsOf}

abbrev pub Pair : Type 0
Pair = ℕ × List (List ℕ)

abbrev pub pair_cmp : Pair → Pair → Ordering
pair_cmp x y = ordering_then (nat_cmp x.0 y.0) (slice_cmp (slice_cmp nat_cmp) x.1 y.1)

abbrev pub pair_same : Pair → Pair → Bool
pair_same x y = nat_eq x.0 y.0 && pointwise (pointwise nat_eq) x.1 y.1

pair_total : IsTotalOrder pair_cmp
pair_total = then_total (on_total (λ (t : Pair). t.0) nat_cmp_total) (on_total (λ (t : Pair). t.1) rows_total)

pair_ties : (x y : Pair) → pair_same x y ≡ eq_by_cmp pair_cmp x y
pair_ties x y = both_tied _ _ (nat_cmp x.0 y.0) (slice_cmp (slice_cmp nat_cmp) x.1 y.1) (sym (unsigned_tied x.0 y.0)) (rows_ties x.1 y.1)

pair_equiv : IsEquivalence pair_same
pair_equiv = and_equiv (on_equiv (λ (t : Pair). t.0) nat_eq_equiv) (on_equiv (λ (t : Pair). t.1) rows_equiv)

pair_equal : (x y : Pair) → pair_same x y ≡ true → x ≡ y
pair_equal x y e =
    let (first, rest) = both_true (nat_eq x.0 y.0) (pointwise (pointwise nat_eq) x.1 y.1) e in
    let rel : x.0 ≡ y.0 = eqb-true x.0 y.0 first in
    let row : x.1 ≡ y.1 = rows_same_equal x.1 y.1 rest in
    λ i. (rel i, row i)

-- what ascends strictly has nothing twice
distinct_sorted : (xs : List Pair) → IsStrictlySortedBy pair_cmp xs → AreDistinct xs
unfolding IsStrictlySortedBy
distinct_sorted [] s = tt
distinct_sorted (x ∷ xs) s = (
  (λ c.
      let less : pair_cmp x x ≡ Less = all_member (λ y. pair_cmp x y ≡ Less) xs x s.0 c in
      let equal : pair_cmp x x ≡ Equal = tied_itself pair_total x in
      clash (sym less ∙ equal)),
  distinct_sorted xs s.1,
)
  where
    clash : Less ≡ Equal → ⊥
    clash e = cc

distinct_mapped : {X Y : Type 0} (f : X → Y) → ((x y : X) → f x ≡ f y → x ≡ y) → (xs : List X) → AreDistinct xs → AreDistinct (map f xs)
distinct_mapped f one [] d = tt
distinct_mapped f one (x ∷ xs) (new, d) =
    ((λ c. let (y, among, e) = contains_mapped f xs (f x) c in new (subst (Contains xs) (one y x e) among)), distinct_mapped f one xs d)

constants_equal : (xs ys : List (List ℕ)) → map Const xs ≡ map Const ys → xs ≡ ys
constants_equal [] [] e = refl
constants_equal [] (y ∷ ys) e = absurd (cc)
constants_equal (x ∷ xs) [] e = absurd (cc)
constants_equal (x ∷ xs) (y ∷ ys) e =
    let here : x ≡ y = cc in
    let rest : map Const xs ≡ map Const ys = cc in
    let after : xs ≡ ys = constants_equal xs ys rest in
    cc

ground_pair_equal : (x y : Pair) → ground_pair x ≡ ground_pair y → x ≡ y
ground_pair_equal x y e =
    let rel : x.0 ≡ y.0 = ap (λ (f : Ground). f.rel) e in
    let row : x.1 ≡ y.1 = constants_equal x.1 y.1 (ap (λ (f : Ground). f.vals) e) in
    λ i. (rel i, row i)

pub kept_once : (sorted kept : List Pair) (facts : List Ground) → IsSorted pair_cmp sorted → kept ≡ dedup pair_same sorted → facts ≡ map ground_pair kept → AreDistinct facts
kept_once sorted kept facts s is made =
    subst AreDistinct (sym made) (distinct_mapped ground_pair ground_pair_equal kept (subst AreDistinct (sym is) (distinct_sorted (dedup pair_same sorted) (IsStrictlySortedBy-dedup pair_total pair_ties sorted s))))

pub kept_same : (instance : List Fact) (rows sorted kept : List Pair) (facts : List Ground) → rows ≡ map pair_of instance → IsPermutation rows sorted → kept ≡ dedup pair_same sorted → facts ≡ map ground_pair kept → AreFactsOf instance facts
kept_same instance rows sorted kept facts all moved is made fact = (
  (λ c.
      let (pair, among, e) = contains_mapped ground_pair kept fact (subst (λ z. Contains z fact) made c) in
      let before = Contains-permutation sorted rows pair (IsPermutation-sym rows sorted moved) (Contains-from_dedup pair_same sorted pair (subst (λ z. Contains z pair) is among)) in
      let (one, there, same) = contains_mapped pair_of instance pair (subst (λ z. Contains z pair) all before) in
      subst (Contains (map ground_of instance)) (ap ground_pair same ∙ e) (contains_map ground_of instance one there)),
  (λ c.
      let (one, there, e) = contains_mapped ground_of instance fact c in
      let before = subst (λ z. Contains z (pair_of one)) (sym all) (contains_map pair_of instance one there) in
      let among = subst (λ z. Contains z (pair_of one)) (sym is) (Contains-dedup pair_equiv pair_equal sorted (pair_of one) (Contains-permutation rows sorted (pair_of one) moved before)) in
      subst (λ z. Contains z fact) (sym made) (subst (Contains (map ground_pair kept)) e (contains_map ground_pair kept (pair_of one) among))),
)
