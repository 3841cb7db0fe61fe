-- What sorting and dropping doubles leaves of the facts that were received.
use Rattle.std.proofs.Common.{◌≡◌, ◌↔◌, ◌∙◌, ℕ, Bool, true, ◌&&◌, List, [], ◌∷◌, map, sym, ap, subst}
use Rattle.std.specs.Prelude.{Contains, nat_eq}
use Rattle.std.specs.List.{dedup}
use Rattle.std.specs.List.Sorted.{IsPermutation, IsSorted, IsStrictlySortedBy}
use Rattle.std.specs.Ordering.{nat_cmp, eq_by_cmp, ordering_then}
use Rattle.std.specs.Cmp.{IsTotalOrder, IsEquivalence, on_equiv, and_equiv, both_tied, unsigned_tied}
use Rattle.std.specs.Cmp.Lexicographic.{slice_cmp, pointwise}
use Rattle.std.specs.declared.cmp.Ordering.{Ordering}
use Rattle.std.specs.declared.cmp.Ordering.TheVariants.{Less, Equal}
use Rattle.std.proofs.lemmas.Bool.{eqb-true, and_parts}
use Rattle.std.proofs.lemmas.Cmp.{then_total, on_total, nat_cmp_total, nat_eq_equiv, tied_itself}
use Rattle.std.proofs.lemmas.List.Kept.{Any-dedup, Contains-from_dedup, IsStrictlySortedBy-dedup}
use Rattle.std.proofs.lemmas.List.Sorted.{Contains-permutation, IsPermutation-sym}
use Rattle.lists.proofs.Members.{contains_map, contains_mapped, all_member}
use Rattle.lists.proofs.Orders.{rows_total, rows_equiv, rows_ties, rows_same_equal}
use Rattle.meaning.specs.declared.types.Fact.{Fact}
use Rattle.meaning.specs.Search.{AreDistinct}
use Rattle.meaning.specs.Values.{Row}
use Rattle.crawl.specs.Progress.{fact_of}

abbrev Received : Type 0
Received = ℕ × Row

abbrev rows_order : Row → Row → Ordering
rows_order = slice_cmp (slice_cmp nat_cmp)

abbrev rows_same : Row → Row → Bool
rows_same = pointwise (pointwise nat_eq)

abbrev order : Received → Received → Ordering
order x y = ordering_then (nat_cmp x.0 y.0) (rows_order x.1 y.1)

abbrev same : Received → Received → Bool
same x y = nat_eq x.0 y.0 && rows_same x.1 y.1

total : IsTotalOrder order
total = then_total (on_total (λ (t : Received). t.0) nat_cmp_total) (on_total (λ (t : Received). t.1) rows_total)

ties : (x y : Received) → same x y ≡ eq_by_cmp order x y
ties x y = both_tied _ _ (nat_cmp x.0 y.0) (rows_order x.1 y.1) (sym (unsigned_tied x.0 y.0)) (rows_ties x.1 y.1)

equiv : IsEquivalence same
equiv = and_equiv (on_equiv (λ (t : Received). t.0) nat_eq_equiv) (on_equiv (λ (t : Received). t.1) rows_equiv)

equal : (x y : Received) → same x y ≡ true → x ≡ y
equal x y e =
    let (first, rest) = and_parts (nat_eq x.0 y.0) (rows_same x.1 y.1) e in
    let rel : x.0 ≡ y.0 = eqb-true x.0 y.0 first in
    let row : x.1 ≡ y.1 = rows_same_equal x.1 y.1 rest in
    λ i. (rel i, row i)

apart : Less ≡ Equal → ⊥
apart e = cc

distinct : (xs : List Received) → IsStrictlySortedBy order xs → AreDistinct (map fact_of xs)
unfolding IsStrictlySortedBy
distinct [] s = tt
distinct (x ∷ xs) s = (
  (λ c.
      let (y, among, e) = contains_mapped fact_of xs (fact_of x) c in
      let is : y ≡ x = λ i. ((e i).rel, (e i).row) in
      apart (sym (all_member (λ w. order x w ≡ Less) xs y s.0 among) ∙ ap (order x) is ∙ tied_itself total x)),
  distinct xs s.1,
)

module _ (given sorted kept : List Received) (moved : IsPermutation given sorted) (up : IsSorted order sorted) (is : kept ≡ dedup same sorted) where
  pub once : AreDistinct (map fact_of kept)
  once = subst (λ (l : List Received). AreDistinct (map fact_of l)) (sym is) (distinct (dedup same sorted) (IsStrictlySortedBy-dedup total ties sorted up))

  pub members : (fact : Fact) → Contains (map fact_of kept) fact ↔ Contains (map fact_of given) fact
  members fact = (
    (λ c.
        let (x, among, e) = contains_mapped fact_of (dedup same sorted) fact (subst (λ (l : List Received). Contains (map fact_of l) fact) is c) in
        subst (Contains (map fact_of given)) e (contains_map fact_of given x (Contains-permutation sorted given x (IsPermutation-sym given sorted moved) (Contains-from_dedup same sorted x among)))),
    (λ c.
        let (x, among, e) = contains_mapped fact_of given fact c in
        let there = Any-dedup equiv sorted x (Contains-permutation given sorted x moved among) in
        let found : Contains (dedup same sorted) there.1 = (there.0, there.2, there.3) in
        subst (λ (l : List Received). Contains (map fact_of l) fact) (sym is)
        (subst (Contains (map fact_of (dedup same sorted))) (ap fact_of (sym (equal x there.1 there.4)) ∙ e) (contains_map fact_of (dedup same sorted) there.1 found))),
  )
