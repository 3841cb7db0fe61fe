-- Classes in order: what sorting and dropping doubles leaves of those that are lent.
use Rattle.std.proofs.Common.{◌≡◌, ◌↔◌, ◌∙◌, List, map, Bool, true, ◌&&◌, sym, subst}
use Rattle.std.specs.Prelude.{Contains, nat_eq}
use Rattle.std.specs.List.{dedup}
use Rattle.std.specs.List.Sorted.{IsPermutation, IsSorted, IsStrictlySortedBy}
use Rattle.std.specs.Ordering.{nat_cmp, eq_by_cmp}
use Rattle.std.specs.Cmp.{IsTotalOrder, IsEquivalence, on_equiv, and_equiv, both_tied, unsigned_tied}
use Rattle.std.specs.Cmp.Lexicographic.{slice_cmp, pointwise, texts_ties}
use Rattle.std.proofs.lemmas.Bool.{eqb-true, and_parts}
use Rattle.std.proofs.lemmas.Cmp.{then_total, on_total, nat_cmp_total, nat_eq_equiv, nat_list_cmp_total, nat_list_eq_equiv}
use Rattle.std.proofs.lemmas.List.Kept.{Any-dedup, Contains-from_dedup, IsStrictlySortedBy-dedup}
use Rattle.std.proofs.lemmas.List.Sorted.{Contains-permutation, IsPermutation-sym}
use Rattle.lists.proofs.Members.{contains_map, contains_mapped}
use Rattle.lists.proofs.Orders.{text_is}
use Rattle.meaning.specs.declared.types.Method.{Method}
use Rattle.crawl_rounds.specs.Rounds.{Class, class_cmp, AreClasses}
use Rattle.crawl_rounds.specs.Lent.{class_of}
use Rattle.crawl_rounds.proofs.Ascending.{ascend_mapped}

abbrev class_same : Class → Class → Bool
class_same x y = nat_eq x.0 y.0 && pointwise nat_eq x.1 y.1

class_total : IsTotalOrder class_cmp
class_total = then_total (on_total (λ (t : Class). t.0) nat_cmp_total) (on_total (λ (t : Class). t.1) nat_list_cmp_total)

class_ties : (x y : Class) → class_same x y ≡ eq_by_cmp class_cmp x y
class_ties x y = both_tied _ _ (nat_cmp x.0 y.0) (slice_cmp nat_cmp x.1 y.1) (sym (unsigned_tied x.0 y.0)) (texts_ties x.1 y.1)

class_equiv : IsEquivalence class_same
class_equiv = and_equiv (on_equiv (λ (t : Class). t.0) nat_eq_equiv) (on_equiv (λ (t : Class). t.1) nat_list_eq_equiv)

class_equal : (x y : Class) → class_same x y ≡ true → x ≡ y
class_equal x y e =
    let (first, rest) = and_parts (nat_eq x.0 y.0) (pointwise nat_eq x.1 y.1) e in
    let rel : x.0 ≡ y.0 = eqb-true x.0 y.0 first in
    let inputs : x.1 ≡ y.1 = text_is x.1 y.1 rest in
    λ i. (rel i, inputs i)

module _ {X : Type 0} (class : X → Class) where
  abbrev by_class : X → X → Bool
  by_class x y = class_same (class x) (class y)

  ascends : (xs : List X) → IsSorted (λ x y. class_cmp (class x) (class y)) xs → IsStrictlySortedBy class_cmp (map class (dedup by_class xs))
  ascends xs s = ascend_mapped (λ x y. class_cmp (class x) (class y)) class_cmp class (λ x y less. less) (dedup by_class xs)
      (IsStrictlySortedBy-dedup (on_total class class_total) (λ x y. class_ties (class x) (class y)) xs s)

  same : (xs ys : List X) → IsPermutation xs ys → (one : Class) → Contains (map class (dedup by_class ys)) one ↔ Contains (map class xs) one
  same xs ys moved one = (
    (λ c.
        let (x, among, e) = contains_mapped class (dedup by_class ys) one c in
        subst (Contains (map class xs)) e (contains_map class xs x (Contains-permutation ys xs x (IsPermutation-sym xs ys moved) (Contains-from_dedup by_class ys x among)))),
    (λ c.
        let (x, among, e) = contains_mapped class xs one c in
        let kept = Any-dedup (on_equiv class class_equiv) ys x (Contains-permutation xs ys x moved among) in
        subst (Contains (map class (dedup by_class ys))) (sym (class_equal (class x) (class kept.1) kept.4) ∙ e) (contains_map class (dedup by_class ys) kept.1 (kept.0, kept.2, kept.3))),
  )

  -- what is left of the methods' classes that were sorted, without doubles
  pub classes_of : (methods : List Method) (given sorted kept : List X) → map class given ≡ map class_of methods → IsPermutation given sorted → IsSorted (λ x y. class_cmp (class x) (class y)) sorted → kept ≡ dedup by_class sorted → AreClasses methods (map class kept)
  classes_of methods given sorted kept all moved s is = record {
    ascend = rw is (ascends sorted s);
    exactly = λ one.
        let (to, from) = same given sorted moved one in (
          (λ c.
              let (method, among, e) = contains_mapped class_of methods one (subst (λ l. Contains l one) all (to (subst (λ (k : List X). Contains (map class k) one) is c))) in
              (method, among, (λ i. (e i).0), (λ i. (e i).1))),
          (λ (method, among, rel, inputs).
              let c : Contains (map class_of methods) one = subst (Contains (map class_of methods)) (λ i. (rel i, inputs i)) (contains_map class_of methods method among) in
              subst (λ (k : List X). Contains (map class k) one) (sym is) (from (subst (λ l. Contains l one) (sym all) c))),
        );
  }
