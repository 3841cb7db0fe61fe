-- Facts in order: what sorting and dropping doubles leaves, by the facts that are lent.
use Rattle.std.proofs.Common.{◌≡◌, ◌↔◌, List, [], ◌∷◌, map, Bool, true, ◌&&◌, sym, ◌∙◌, subst}
use Rattle.std.specs.Prelude.{Contains, nat_eq}
use Rattle.std.specs.List.{AllByRecursion, dedup}
use Rattle.std.specs.List.Sorted.{IsPermutation, IsSorted, IsStrictlySortedBy}
use Rattle.std.specs.Ordering.{nat_cmp, eq_by_cmp}
use Rattle.std.specs.Cmp.{IsTotalOrder, IsEquivalence, on_equiv, and_equiv, both_tied, unsigned_tied}
use Rattle.std.specs.Cmp.Lexicographic.{slice_cmp, pointwise}
use Rattle.std.specs.declared.cmp.Ordering.TheVariants.{Less}
use Rattle.std.proofs.lemmas.Bool.{eqb-true, and_parts}
use Rattle.std.proofs.lemmas.Cmp.{then_total, on_total, nat_cmp_total, nat_eq_equiv}
use Rattle.std.proofs.lemmas.List.Kept.{Any-dedup, Contains-from_dedup, IsStrictlySortedBy-dedup}
use Rattle.std.proofs.lemmas.List.Sorted.{Contains-permutation, IsPermutation-sym}
use Rattle.lists.proofs.Members.{contains_map, contains_mapped}
use Rattle.lists.proofs.Orders.{rows_equiv, rows_same_equal, rows_ties, rows_total}
use Rattle.meaning.specs.declared.types.Fact.{Fact}
use Rattle.fact_lines.specs.Lines.{fact_cmp, IsListing}

abbrev fact_same : Fact → Fact → Bool
fact_same x y = nat_eq x.rel y.rel && pointwise (pointwise nat_eq) x.row y.row

pub fact_total : IsTotalOrder fact_cmp
fact_total = then_total (on_total (λ (t : Fact). t.rel) nat_cmp_total) (on_total (λ (t : Fact). t.row) rows_total)

fact_ties : (x y : Fact) → fact_same x y ≡ eq_by_cmp fact_cmp x y
fact_ties x y = both_tied _ _ (nat_cmp x.rel y.rel) (slice_cmp (slice_cmp nat_cmp) x.row y.row) (sym (unsigned_tied x.rel y.rel)) (rows_ties x.row y.row)

fact_equiv : IsEquivalence fact_same
fact_equiv = and_equiv (on_equiv (λ (t : Fact). t.rel) nat_eq_equiv) (on_equiv (λ (t : Fact). t.row) rows_equiv)

fact_equal : (x y : Fact) → fact_same x y ≡ true → x ≡ y
fact_equal x y e =
    let (first, rest) = and_parts (nat_eq x.rel y.rel) (pointwise (pointwise nat_eq) x.row y.row) e in
    let rel : x.rel ≡ y.rel = eqb-true x.rel y.rel first in
    let row : x.row ≡ y.row = rows_same_equal x.row y.row rest in
    λ i. record { rel = rel i; row = row i }

module _ {X : Type 0} (fact : X → Fact) where
  above : (x : X) (xs : List X) → AllByRecursion (λ y. fact_cmp (fact x) (fact y) ≡ Less) xs → AllByRecursion (λ y. fact_cmp (fact x) y ≡ Less) (map fact xs)
  above x [] all = tt
  above x (y ∷ xs) all = (all.0, above x xs all.1)

  mapped : (xs : List X) → IsStrictlySortedBy (λ x y. fact_cmp (fact x) (fact y)) xs → IsStrictlySortedBy fact_cmp (map fact xs)
  unfolding IsStrictlySortedBy
  mapped [] s = tt
  mapped (x ∷ xs) s = (above x xs s.0, mapped xs s.1)

  abbrev by_fact : X → X → Bool
  by_fact x y = fact_same (fact x) (fact y)

  ascends : (xs : List X) → IsSorted (λ x y. fact_cmp (fact x) (fact y)) xs → IsStrictlySortedBy fact_cmp (map fact (dedup by_fact xs))
  ascends xs s = mapped (dedup by_fact xs) (IsStrictlySortedBy-dedup (on_total fact fact_total) (λ x y. fact_ties (fact x) (fact y)) xs s)

  same : (xs ys : List X) → IsPermutation xs ys → (one : Fact) → Contains (map fact (dedup by_fact ys)) one ↔ Contains (map fact xs) one
  same xs ys moved one = (
    (λ c.
        let (x, among, e) = contains_mapped fact (dedup by_fact ys) one c in
        subst (Contains (map fact xs)) e (contains_map fact xs x (Contains-permutation ys xs x (IsPermutation-sym xs ys moved) (Contains-from_dedup by_fact ys x among)))),
    (λ c.
        let (x, among, e) = contains_mapped fact xs one c in
        let kept = Any-dedup (on_equiv fact fact_equiv) ys x (Contains-permutation xs ys x moved among) in
        subst (Contains (map fact (dedup by_fact ys))) (sym (fact_equal (fact x) (fact kept.1) kept.4) ∙ e) (contains_map fact (dedup by_fact ys) kept.1 (kept.0, kept.2, kept.3))),
  )

  -- what is left of facts that were sorted, without doubles
  pub listing_of : (facts : List Fact) (given sorted kept : List X) → map fact given ≡ facts → IsPermutation given sorted → IsSorted (λ x y. fact_cmp (fact x) (fact y)) sorted → kept ≡ dedup by_fact sorted → IsListing facts (map fact kept)
  listing_of facts given sorted kept all moved s is = record {
    ascends = rw is (ascends sorted s);
    same = λ one. rw (is, ← all) (same given sorted moved one);
  }
