-- Rows in order: the place that a bisection finds.
use Rattle.std.proofs.Common.{◌≡◌, ◌<◌, ◌≤◌, ◌+◌, ℕ, List, [], length, get_or, map, Some, Bor, true, inl, inr, refl, sym, ◌∙◌, ap, arith}
use Rattle.std.specs.Prelude.{Contains, slice_get}
use Rattle.std.specs.List.Sorted.{IsStrictlySortedBy}
use Rattle.std.specs.Ordering.{ordering_reverse, is_lt, is_gt}
use Rattle.std.specs.declared.cmp.Ordering.{Ordering}
use Rattle.std.specs.declared.cmp.Ordering.TheVariants.{Less, Equal, Greater}
use Rattle.std.proofs.lemmas.Cmp.{tied_itself}
use Rattle.std.proofs.lemmas.List.{get_or_default}
use Rattle.std.proofs.lemmas.Map.Keys.{Less-from_sorted}
use Rattle.std.proofs.lemmas.Option.{slice_get-get_or}
use Rattle.std.proofs.lemmas.Bool.{cases_lt}
use Rattle.lists.proofs.Members.{map_got}
use Rattle.lists.proofs.Orders.{rows_equal, rows_total}
use Rattle.row_text.specs.RowText.{row_cmp}

-- the text at a place of lent texts
pub text_got : (texts : List (Bor (List ℕ))) (k : ℕ) (text : Bor (List ℕ)) → k < length texts → text ≡ get_or texts k text → slice_get (map (λ s. s.now) texts) k ≡ Some text.now
text_got texts k text less at = map_got (λ s. s.now) texts k text (slice_get-get_or texts k text less ∙ ap (λ v. Some v) (sym at))

pub less_of : (o : Ordering) → is_lt o ≡ true → o ≡ Less
less_of Less e = refl
less_of Equal e = absurd (cc)
less_of Greater e = absurd (cc)

pub greater_of : (o : Ordering) → is_gt o ≡ true → o ≡ Greater
greater_of Less e = absurd (cc)
greater_of Equal e = absurd (cc)
greater_of Greater e = refl

turned : (x y : List (List ℕ)) (o : Ordering) → row_cmp x y ≡ o → row_cmp y x ≡ ordering_reverse o
turned x y o e = rows_total.antisymm y x ∙ ap ordering_reverse e

module _ (rows : List (List (List ℕ))) (row : List (List ℕ)) where
  -- where the row at a place is below another one, so are those before it
  pub below_up_to : (m : ℕ) → IsStrictlySortedBy row_cmp rows → m < length rows → row_cmp (get_or rows m []) row ≡ Less
      → (k : ℕ) → k < m + 1 → row_cmp (get_or rows k []) row ≡ Less
  below_up_to m ascends within e k low = elim (cases_lt k m) [
    | inl before ↦ rows_total.trans (get_or rows k []) (get_or rows m []) row (Less-from_sorted row_cmp rows k m [] ascends before within) e
    | inr behind ↦ let same : k ≡ m = omega arith in rw same e
  ]

  -- where the row at a place is above another one, so are those behind it
  pub above_from : (m : ℕ) → IsStrictlySortedBy row_cmp rows → row_cmp (get_or rows m []) row ≡ Greater
      → (k : ℕ) → m ≤ k → k < length rows → row_cmp (get_or rows k []) row ≡ Greater
  above_from m ascends e k high within = elim (cases_lt m k) [
    | inl behind ↦ turned row (get_or rows k []) Less
        (rows_total.trans row (get_or rows m []) (get_or rows k []) (turned (get_or rows m []) row Greater e) (Less-from_sorted row_cmp rows m k [] ascends behind within))
    | inr before ↦ let same : k ≡ m = omega arith in rw same e
  ]

  -- the row at a place where the rows tie
  pub found_here : (m : ℕ) → m < length rows → row_cmp (get_or rows m []) row ≡ Equal → slice_get rows m ≡ Some row
  found_here m within e = slice_get-get_or rows m [] within ∙ ap (λ v. Some v) (rows_equal (get_or rows m []) row e)

  -- where each row is below or above another one, that one is none of them
  pub not_among : (low high : ℕ) → high ≤ low → ((k : ℕ) → k < low → row_cmp (get_or rows k []) row ≡ Less)
      → ((k : ℕ) → high ≤ k → k < length rows → row_cmp (get_or rows k []) row ≡ Greater) → Contains rows row → ⊥
  not_among low high met below above (k, within, e) =
      let same : get_or rows k [] ≡ row = get_or_default rows k [] row within ∙ e in
      let tied : row_cmp row row ≡ Equal = tied_itself rows_total row in
      elim (cases_lt k low) [
        | inl before ↦ let h : row_cmp row row ≡ Less = rw same at (below k before) in absurd (cc)
        | inr behind ↦ let h : row_cmp row row ≡ Greater = rw same at (above k (omega arith) within) in absurd (cc)
      ]
