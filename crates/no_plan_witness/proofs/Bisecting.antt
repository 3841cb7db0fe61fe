-- What a bisection of ascending constants answers is whether the text is one of them.
use Rattle.std.proofs.Common.{◌≡◌, ◌↔◌, ◌∙◌, sym, ap, subst, ℕ, List, length, get_or, true, false, refl, arith, ⊎_elim}
use Rattle.std.specs.Prelude.{Contains, IsTrue, Result, Ok, Err, is_ok}
use Rattle.std.specs.Cmp.Lexicographic.{slice_cmp, texts_ties}
use Rattle.std.specs.declared.cmp.Ordering.TheVariants.{Less, Greater}
use Rattle.std.specs.Ordering.{is_eq, nat_cmp}
use Rattle.std.specs.List.Sorted.{IsSorted, IsSearchInRange, IsBinarySearchResult}
use Rattle.std.proofs.lemmas.Bool.{cases_lt}
use Rattle.std.proofs.lemmas.Cmp.{nat_list_cmp_total}
use Rattle.std.proofs.lemmas.List.Sorted.{searchable_from_sorted}
use Rattle.lists.proofs.Orders.{text_is}
use Rattle.access_schema.proofs.Texts.{text_same}

pub bisected : (constants : List (List ℕ)) (text : List ℕ) (r : Result ℕ ℕ) → IsSorted (slice_cmp nat_cmp) constants → IsSearchInRange r (length constants) → IsBinarySearchResult (λ c. slice_cmp nat_cmp c text) constants r → IsTrue (is_ok r) ↔ Contains constants text
bisected constants text (Ok i) sorted range found =
    ((λ t. (i, range, text_is (get_or constants i text) text (texts_ties (get_or constants i text) text ∙ ap is_eq (found text)))), (λ c. refl))
bisected constants text (Err i) sorted range found =
    let parted = found (searchable_from_sorted nat_list_cmp_total (λ (c : List ℕ). c) constants text sorted) in
    let level : is_eq (slice_cmp nat_cmp text text) ≡ true = sym (texts_ties text text) ∙ text_same text in (
      (λ t. absurd (cc)),
      (λ (k, l, e). ⊎_elim
          (λ below. absurd (let less : slice_cmp nat_cmp text text ≡ Less = subst (λ c. slice_cmp nat_cmp c text ≡ Less) e (parted.0 k text (omega arith) below) in let no : is_eq (slice_cmp nat_cmp text text) ≡ false = ap is_eq less in cc))
          (λ above. absurd (let greater : slice_cmp nat_cmp text text ≡ Greater = subst (λ c. slice_cmp nat_cmp c text ≡ Greater) e (parted.1 k text above l) in let no : is_eq (slice_cmp nat_cmp text text) ≡ false = ap is_eq greater in cc))
          (cases_lt k i)),
    )
