-- The known values with their marks.
use Rattle.std.proofs.Common.{◌≡◌, ◌↔◌, ◌∙◌, ◌⊎◌, ⊎_elim, Bool, true, false, cond, List, [], ◌∷◌, length, refl, sym, ap, subst}
use Rattle.std.specs.Prelude.{Contains, map, nat_eq}
use Rattle.std.specs.BTreeSet.{IsOrdered}
use Rattle.std.specs.List.{dedup, filter}
use Rattle.std.specs.List.Sorted.{IsPermutation, IsSorted, IsStrictlySortedBy}
use Rattle.std.specs.Ordering.{nat_cmp, ordering_reverse}
use Rattle.std.specs.Cmp.Lexicographic.{slice_cmp, pointwise, texts_ties}
use Rattle.std.specs.declared.cmp.Ordering.{Ordering}
use Rattle.std.specs.declared.cmp.Ordering.TheVariants.{Less, Equal, Greater}
use Rattle.std.proofs.lemmas.Cmp.{nat_list_cmp_total, nat_list_eq_equiv, tied_itself}
use Rattle.std.proofs.lemmas.List.{length-map}
use Rattle.std.proofs.lemmas.List.Kept.{Contains-dedup, Contains-from_dedup, IsStrictlySortedBy-dedup, IsStrictlySortedBy-filter}
use Rattle.std.proofs.lemmas.List.Sorted.{Contains-permutation, IsPermutation-sym}
use Rattle.lists.proofs.Members.{contains_here, contains_there, contains_cases, contains_none, contains_map, contains_mapped, contains_filter, filter_from, all_member}
use Rattle.lists.proofs.Orders.{text_is}
use Rattle.meaning.specs.Values.{Value}
use Rattle.crawl_rounds.specs.Rows.{Marked, fresh_of, fresh_count}
use Rattle.crawl_rounds.specs.Rounds.{marked_cmp, AreKnown}
use Rattle.crawl_rounds.proofs.Ascending.{ascend_mapped}
use Rattle.crawl.specs.declared.known.KnownValues.{KnownValues}
use Rattle.crawl.specs.Knowing.{is_fresh, marked_of}
use Rattle.crawl.specs.Rounding.{FreshWithin}
use Rattle.crawl.proofs.Knowing.{fresh_iff}

abbrev order : Value → Value → Ordering
order = slice_cmp nat_cmp

apart : Less ≡ Equal → ⊥
apart e = cc

turned : Less ≡ Greater → ⊥
turned e = cc

-- a value is not below itself, and of two none is below the other
not_below : (x : Value) → order x x ≡ Less → ⊥
not_below x less = apart (sym less ∙ tied_itself nat_list_cmp_total x)

one_way : (x y : Value) → order x y ≡ Less → order y x ≡ Less → ⊥
one_way x y less more = turned (sym less ∙ nat_list_cmp_total.antisymm x y ∙ ap ordering_reverse more)

-- ascending lists with the same members are the same
pub same_ascending : (xs ys : List Value) → IsStrictlySortedBy order xs → IsStrictlySortedBy order ys → ((v : Value) → Contains xs v ↔ Contains ys v) → xs ≡ ys
unfolding IsStrictlySortedBy
same_ascending [] [] s t same = refl
same_ascending [] (y ∷ ys) s t same = absurd (contains_none y ((same y).1 (contains_here y ys)))
same_ascending (x ∷ xs) [] s t same = absurd (contains_none x ((same x).0 (contains_here x xs)))
same_ascending (x ∷ xs) (y ∷ ys) s t same =
    let head : x ≡ y = first (contains_cases y ys x ((same x).0 (contains_here x xs))) (contains_cases x xs y ((same y).1 (contains_here y ys))) in
    let rest : xs ≡ ys = same_ascending xs ys s.1 t.1 (λ v. (
      (λ c. ⊎_elim (λ e. absurd (not_below x (subst (λ w. order x w ≡ Less) (sym e ∙ sym head) (below_x v c)))) (λ d. d) (contains_cases y ys v ((same v).0 (contains_there x xs v c)))),
      (λ c. ⊎_elim (λ e. absurd (not_below y (subst (λ w. order y w ≡ Less) (sym e ∙ head) (below_y v c)))) (λ d. d) (contains_cases x xs v ((same v).1 (contains_there y ys v c)))),
    )) in
    λ i. head i ∷ rest i
  where
    below_x : (v : Value) → Contains xs v → order x v ≡ Less
    below_x v c = all_member (λ w. order x w ≡ Less) xs v s.0 c

    below_y : (v : Value) → Contains ys v → order y v ≡ Less
    below_y v c = all_member (λ w. order y w ≡ Less) ys v t.0 c

    first : (y ≡ x) ⊎ Contains ys x → (x ≡ y) ⊎ Contains xs y → x ≡ y
    first c d = ⊎_elim (λ e. sym e) (λ h. ⊎_elim (λ e. e) (λ k. absurd (one_way x y (below_x y k) (below_y x h))) d) c

-- what sorting and dropping doubles leaves
module _ (given sorted kept : List Value) (moved : IsPermutation given sorted) (up : IsSorted order sorted) (is : kept ≡ dedup (pointwise nat_eq) sorted) where
  pub arranged : (v : Value) → Contains kept v ↔ Contains given v
  arranged v = (
    (λ c. Contains-permutation sorted given v (IsPermutation-sym given sorted moved) (Contains-from_dedup (pointwise nat_eq) sorted v (subst (λ (l : List Value). Contains l v) is c))),
    (λ c. subst (λ (l : List Value). Contains l v) (sym is) (Contains-dedup nat_list_eq_equiv text_is sorted v (Contains-permutation given sorted v moved c))),
  )

  pub arranged_up : IsStrictlySortedBy order kept
  arranged_up = subst (λ (l : List Value). IsStrictlySortedBy order l) (sym is) (IsStrictlySortedBy-dedup nat_list_cmp_total texts_ties sorted up)

-- the new ones of marked values
fresh_kept : (test : Value → Bool) (vs : List Value) → fresh_of (map (λ v. (v, test v)) vs) ≡ filter test vs
fresh_kept test [] = refl
fresh_kept test (v ∷ vs) = go (test v) (fresh_kept test vs)
  where
    go : (b : Bool) → fresh_of (map (λ w. (w, test w)) vs) ≡ filter test vs → map (λ (m : Marked). m.0) (cond b ((v, b) ∷ filter (λ (m : Marked). m.1) (map (λ w. (w, test w)) vs)) (filter (λ (m : Marked). m.1) (map (λ w. (w, test w)) vs))) ≡ cond b (v ∷ filter test vs) (filter test vs)
    go true e = ap (λ l. v ∷ l) e
    go false e = e

module _ (known : KnownValues) (all_up : IsOrdered order known.all) (its : FreshWithin known) where
  pub fresh_are : known.fresh.items ≡ fresh_of (marked_of known)
  fresh_are = same_ascending known.fresh.items (filter (is_fresh known) known.all.keys) its.ascend (IsStrictlySortedBy-filter order (is_fresh known) known.all.keys all_up) (λ v. (
    (λ c. contains_filter (is_fresh known) known.all.keys v (its.within v c) ((fresh_iff known v).1 c)),
    (λ c. (fresh_iff known v).0 (filter_from (is_fresh known) known.all.keys v c).1),
  )) ∙ sym (fresh_kept (is_fresh known) known.all.keys)

  pub fresh_counted : fresh_count (marked_of known) ≡ length known.fresh.items
  fresh_counted = sym (length-map (filter (λ (m : Marked). m.1) (marked_of known)) (λ (m : Marked). m.0)) ∙ ap length (sym fresh_are)

pub all_counted : (known : KnownValues) → length (marked_of known) ≡ length known.all.keys
all_counted known = length-map known.all.keys (λ v. (v, is_fresh known v))

-- the marked values are those that are known, and the new ones those that were not
pub are_known : (known : KnownValues) (Old Known : Value → Type 0) → IsOrdered order known.all → ((v : Value) → Contains known.all.keys v ↔ Known v) → ((v : Value) → Contains known.fresh.items v → Old v → ⊥)
    → ((v : Value) → Known v → Contains known.fresh.items v ⊎ Old v) → AreKnown Old Known (marked_of known)
are_known known Old Known up all new old = record {
  ascend = ascend_mapped order marked_cmp (λ v. (v, is_fresh known v)) (λ x y less. less) known.all.keys up;
  known = λ v. (
    (λ (mark, c). let (x, among, e) = contains_mapped (λ w. (w, is_fresh known w)) known.all.keys (v, mark) c in (all v).0 (subst (Contains known.all.keys) (ap (λ (m : Marked). m.0) e) among)),
    (λ k. (is_fresh known v, contains_map (λ w. (w, is_fresh known w)) known.all.keys v ((all v).1 k))),
  );
  fresh = λ v c was. new v ((fresh_iff known v).0 (mark_is v true c).1) was;
  old = λ v c. let its = mark_is v false c in ⊎_elim (λ f. absurd (clash (sym its.1 ∙ (fresh_iff known v).1 f))) (λ o. o) (old v ((all v).0 its.0));
}
  where
    clash : false ≡ true → ⊥
    clash e = cc

    mark_is : (v : Value) (b : Bool) → Contains (marked_of known) (v, b) → Contains known.all.keys v × (is_fresh known v ≡ b)
    mark_is v b c =
        let (x, among, e) = contains_mapped (λ w. (w, is_fresh known w)) known.all.keys (v, b) c in
        let same : x ≡ v = ap (λ (m : Marked). m.0) e in
        (subst (Contains known.all.keys) same among, ap (is_fresh known) (sym same) ∙ ap (λ (m : Marked). m.1) e)
