-- The rows of a class ascend.
use Rattle.std.proofs.Common.{◌≡◌, ◌∙◌, ℕ, zero, suc, ◌+◌, Bool, ◌||◌, List, [], ◌∷◌, ◌++◌, length, refl, sym, ap, subst, arith}
use Rattle.std.specs.Prelude.{Contains, map}
use Rattle.std.specs.List.{filter}
use Rattle.std.specs.List.Sorted.{IsStrictlySortedBy}
use Rattle.std.specs.Ordering.{nat_cmp, ordering_then}
use Rattle.std.specs.Cmp.Lexicographic.{slice_cmp}
use Rattle.std.specs.declared.cmp.Ordering.{Ordering}
use Rattle.std.specs.declared.cmp.Ordering.TheVariants.{Less, Equal, Greater}
use Rattle.std.proofs.lemmas.Cmp.{tied_itself}
use Rattle.std.proofs.lemmas.List.{length_push}
use Rattle.std.proofs.lemmas.List.Kept.{IsStrictlySortedBy-filter}
use Rattle.lists.proofs.Members.{contains_one, contains_mapped, joined_from}
use Rattle.lists.proofs.Orders.{rows_total}
use Rattle.meaning.specs.Values.{Value, Row}
use Rattle.meaning.specs.Requests.{rows_cmp}
use Rattle.crawl_rounds.specs.Rows.{Marked, MarkedRow, rows_of, class_rows}
use Rattle.crawl_rounds.specs.Rounds.{marked_cmp}
use Rattle.crawl_rounds.proofs.Ascending.{ascend_mapped, ascend_joined}

then_equal : (o : Ordering) → ordering_then o Equal ≡ o
then_equal Less = refl
then_equal Equal = refl
then_equal Greater = refl

pub then_again : (o p q : Ordering) → ordering_then o (ordering_then p q) ≡ ordering_then (ordering_then o p) q
then_again Less p q = refl
then_again Equal p q = refl
then_again Greater p q = refl

-- of rows with one value more the shorter ones decide first
cmp_pushed : (a b : Row) (v w : Value) → length a ≡ length b → rows_cmp (a ++ v ∷ []) (b ++ w ∷ []) ≡ ordering_then (rows_cmp a b) (slice_cmp nat_cmp v w)
cmp_pushed [] [] v w e = then_equal (slice_cmp nat_cmp v w)
cmp_pushed [] (y ∷ b) v w e = absurd (omega arith)
cmp_pushed (x ∷ a) [] v w e = absurd (omega arith)
cmp_pushed (x ∷ a) (y ∷ b) v w e = ap (ordering_then (slice_cmp nat_cmp x y)) (cmp_pushed a b v w (omega arith)) ∙ then_again (slice_cmp nat_cmp x y) (rows_cmp a b) (slice_cmp nat_cmp v w)

abbrev row_order : MarkedRow → MarkedRow → Ordering
row_order x y = rows_cmp x.0 y.0

-- each row of n values has n
rows_long : (first : Bool) (values : List Marked) (n : ℕ) (row : MarkedRow) → Contains (rows_of first values n) row → length row.0 ≡ n
rows_long first values zero row c = ap (λ (r : MarkedRow). length r.0) (sym (contains_one ([], first) row c))
rows_long first values (suc n) row c =
    let (before, among, d) = joined_from (λ (r : MarkedRow). map (λ (v : Marked). (r.0 ++ v.0 ∷ [], r.1 || v.1)) values) (rows_of first values n) row c in
    let (v, its, e) = contains_mapped (λ (v : Marked). (before.0 ++ v.0 ∷ [], before.1 || v.1)) values row d in
    let long : length before.0 ≡ n = rows_long first values n before among in
    let pushed : length (before.0 ++ v.0 ∷ []) ≡ length before.0 + 1 = length_push before.0 v.0 in
    let same : length row.0 ≡ length (before.0 ++ v.0 ∷ []) = ap (λ (r : MarkedRow). length r.0) (sym e) in
    omega arith

module _ (first : Bool) (values : List Marked) (s : IsStrictlySortedBy marked_cmp values) where
  all_ascend : (n : ℕ) → IsStrictlySortedBy row_order (rows_of first values n)
  unfolding IsStrictlySortedBy
  all_ascend zero = (tt, tt)
  all_ascend (suc n) = ascend_joined row_order row_order (λ (r : MarkedRow). map (λ (v : Marked). (r.0 ++ v.0 ∷ [], r.1 || v.1)) values) (rows_of first values n) (all_ascend n)
      (λ row among. ascend_mapped marked_cmp row_order (λ (v : Marked). (row.0 ++ v.0 ∷ [], row.1 || v.1)) (λ v w less. within row v w less) values s)
      (λ x y in_x in_y less a b c d.
      let (v, among, e) = contains_mapped (λ (v : Marked). (x.0 ++ v.0 ∷ [], x.1 || v.1)) values a c in
      let (w, also, f) = contains_mapped (λ (v : Marked). (y.0 ++ v.0 ∷ [], y.1 || v.1)) values b d in
      subst (λ (r : MarkedRow). row_order r b ≡ Less) e (subst (λ (r : MarkedRow). row_order (x.0 ++ v.0 ∷ [], x.1 || v.1) r ≡ Less) f (between x y v w (rows_long first values n x in_x ∙ sym (rows_long first values n y in_y)) less)))
    where
      within : (row : MarkedRow) (v w : Marked) → marked_cmp v w ≡ Less → rows_cmp (row.0 ++ v.0 ∷ []) (row.0 ++ w.0 ∷ []) ≡ Less
      within row v w less = cmp_pushed row.0 row.0 v.0 w.0 refl ∙ ap (λ o. ordering_then o (slice_cmp nat_cmp v.0 w.0)) (tied_itself rows_total row.0) ∙ less

      between : (x y : MarkedRow) (v w : Marked) → length x.0 ≡ length y.0 → rows_cmp x.0 y.0 ≡ Less → rows_cmp (x.0 ++ v.0 ∷ []) (y.0 ++ w.0 ∷ []) ≡ Less
      between x y v w long less = cmp_pushed x.0 y.0 v.0 w.0 long ∙ ap (λ o. ordering_then o (slice_cmp nat_cmp v.0 w.0)) less

  pub rows_ascend : (n : ℕ) → IsStrictlySortedBy rows_cmp (class_rows first values n)
  rows_ascend n = ascend_mapped row_order rows_cmp (λ (r : MarkedRow). r.0) (λ x y less. less) (filter (λ (r : MarkedRow). r.1) (rows_of first values n)) (IsStrictlySortedBy-filter row_order (λ (r : MarkedRow). r.1) (rows_of first values n) (all_ascend n))
