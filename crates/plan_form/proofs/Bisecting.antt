-- What a bisection of ascending constants answers is whether the text is one of them.
use Rattle.std.proofs.Common.{◌≡◌, ◌≢◌, ◌<◌, ◌≤◌, ◌+◌, ◌∙◌, sym, ap, ℕ, zero, suc, List, [], ◌∷◌, length, get_or, Bool, true, false, cond, refl, arith, ⊎_elim, nat_eq}
use Rattle.std.specs.Prelude.{Result, Ok, Err, is_ok}
use Rattle.std.specs.Cmp.{IsTotalOrder}
use Rattle.std.specs.Cmp.Lexicographic.{pointwise, slice_cmp, texts_ties}
use Rattle.std.specs.declared.cmp.Ordering.{Ordering}
use Rattle.std.specs.declared.cmp.Ordering.TheVariants.{Less, Equal, Greater}
use Rattle.std.specs.Ordering.{is_eq, is_le, nat_cmp, ordering_index, ordering_reverse}
use Rattle.std.specs.List.Sorted.{IsSearchInRange, IsBinarySearchResult}
use Rattle.std.specs.BTreeMap.Comparable.{le_lt_trans}
use Rattle.std.proofs.lemmas.Bool.{cases_lt}
use Rattle.std.proofs.lemmas.Cmp.{nat_list_cmp_total}
use Rattle.std.proofs.lemmas.List.Sorted.{IsNonDecreasingBy-from_all_adjacent}
use Rattle.lists.proofs.Booleans.{cond_true}
use Rattle.plan_form.specs.Judging.{has_text, Ascend}
use Rattle.plan_form.proofs.Texts.{first_true}

-- where a does not come behind b, it stands no further behind c than b does
index_rises : {K : Type 0} {cmp : K → K → Ordering} → IsTotalOrder cmp → (a b c : K) → is_le (cmp a b) ≡ true → ordering_index (cmp a c) ≤ ordering_index (cmp b c)
index_rises {cmp = cmp} total a b c le = by (cmp a c) (cmp b c) refl refl
  where
    by : (p q : Ordering) → p ≡ cmp a c → q ≡ cmp b c → ordering_index p ≤ ordering_index q
    by Less Less is other = omega arith
    by Less Equal is other = omega arith
    by Less Greater is other = omega arith
    by Equal Less is other = absurd (let less : cmp a c ≡ Less = le_lt_trans total a b c le (sym other) in cc)
    by Equal Equal is other = omega arith
    by Equal Greater is other = omega arith
    by Greater Less is other = absurd (let less : cmp a c ≡ Less = le_lt_trans total a b c le (sym other) in cc)
    by Greater Equal is other =
        let level : cmp c b ≡ Equal = total.antisymm c b ∙ ap ordering_reverse (sym other) in
        let before : cmp c a ≡ Less = total.antisymm c a ∙ ap ordering_reverse (sym is) in
        let below : cmp b a ≡ Less = sym (total.congr c b a level) ∙ before in
        let behind : is_le (cmp a b) ≡ false = ap is_le (total.antisymm a b ∙ ap ordering_reverse below) in
        absurd (cc)
    by Greater Greater is other = omega arith

found_has : (constants : List (List ℕ)) (text : List ℕ) (i : ℕ) → i < length constants → ((d : List ℕ) → slice_cmp nat_cmp (get_or constants i d) text ≡ Equal) → has_text constants text ≡ true
found_has [] text i l at = absurd (omega arith)
found_has (c ∷ constants) text zero l at = first_true (pointwise nat_eq c text) (has_text constants text) (texts_ties c text ∙ ap is_eq (at []))
found_has (c ∷ constants) text (suc i) l at = cond_true (pointwise nat_eq c text) (has_text constants text) (found_has constants text i (omega arith) at)

not_equal : (answer : Ordering) → answer ≢ Equal → is_eq answer ≡ false
not_equal Less other = refl
not_equal Equal other = absurd (other refl)
not_equal Greater other = refl

neither : (b r : Bool) → b ≡ false → r ≡ false → cond b true r ≡ false
neither true r first rest = absurd (cc)
neither false r first rest = rest

none_has : (constants : List (List ℕ)) (text : List ℕ) → ((k : ℕ) (d : List ℕ) → k < length constants → slice_cmp nat_cmp (get_or constants k d) text ≢ Equal) → has_text constants text ≡ false
none_has [] text other = refl
none_has (c ∷ constants) text other =
    neither (pointwise nat_eq c text) (has_text constants text)
    (texts_ties c text ∙ not_equal (slice_cmp nat_cmp c text) (other 0 [] (omega arith)))
    (none_has constants text (λ k d l. other (suc k) d (omega arith)))

pub bisected : (constants : List (List ℕ)) (text : List ℕ) (r : Result ℕ ℕ) → Ascend constants → IsSearchInRange r (length constants) → IsBinarySearchResult (λ c. slice_cmp nat_cmp c text) constants r → is_ok r ≡ has_text constants text
bisected constants text (Ok i) ascend range found = sym (found_has constants text i range found)
bisected constants text (Err i) ascend range found =
    let rises = IsNonDecreasingBy-from_all_adjacent (λ c. ordering_index (slice_cmp nat_cmp c text)) constants (λ k d l. index_rises nat_list_cmp_total (get_or constants k d) (get_or constants (k + 1) d) text (ascend k d l)) in
    let parted = found rises in
    sym (none_has constants text (λ k d l equal. ⊎_elim
    (λ below. absurd (let less = parted.0 k d (omega arith) below in cc))
    (λ above. absurd (let greater = parted.1 k d above l in cc))
    (cases_lt k i)))
