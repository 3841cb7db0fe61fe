-- The least rows of the unmet matches, one match after another.
use Rattle.std.proofs.Common.{◌≡◌, ℕ, ◌+◌, ◌<◌, List, [], ◌∷◌, ◌++◌, map, length, take, ◌≤◌, slice_index_or, Option, Some, None, refl, sym, ap, ◌∙◌, subst, inl, inr, ⊎_elim, arith, true, false, cond, ◌⊎◌}
use Rattle.std.specs.Prelude.{◌≢◌, Contains}
use Rattle.std.specs.Ordering.{ord_min, is_lt, is_gt, ordering_reverse}
use Rattle.std.specs.Cmp.{IsTotalOrder}
use Rattle.std.specs.declared.cmp.Ordering.{Ordering}
use Rattle.std.specs.declared.cmp.Ordering.TheVariants.{Less, Equal, Greater}
use Rattle.std.proofs.lemmas.Cmp.{upto, tied_itself, lists_total, nat_cmp_total}
use Rattle.std.proofs.lemmas.List.{take_all, ext_get_or}
use Rattle.std.proofs.lemmas.List.Elements.{Contains-append_left, Contains-push, Contains-push_cases}
use Rattle.std.proofs.lemmas.List.FromFn.{length-map-range_with_len, get_or-map-range_with_len}
use Rattle.lists.proofs.Members.{contains_none}
use Rattle.lists.proofs.Places.{take_indexed}
use Rattle.meaning_laws.proofs.Carrying.{occurs_below}
use Rattle.meaning.specs.declared.types.Val.{Val}
use Rattle.meaning.specs.declared.types.Val.TheVariants.{Const, Label}
use Rattle.meaning.specs.declared.types.Atom.{Atom}
use Rattle.meaning.specs.declared.types.Rule.{Rule}
use Rattle.meaning.specs.declared.types.Fact.{Fact}
use Rattle.meaning.specs.declared.types.Ground.{Ground}
use Rattle.meaning.specs.Matching.{MeetsRule, GroundsOf}
use Rattle.meaning.specs.Triggers.{bound}
use Rattle.homomorphism.specs.declared.assignment.Assignment.{Assignment}
use Rattle.homomorphism.specs.Bindings.{at, values_of}
use Rattle.homomorphism.specs.Rules.{AreBodyMatches, IsMet, IsUnmet, IsUnmetMatch}
use Rattle.data_verify.specs.Breaking.{row_under, facts_under, row_lists_cmp}
use Rattle.homomorphism.specs.Texts.{text_at}
use Rattle.data_verify.specs.Unmet.{lesser, AreLeastRows, AreLeastRowsIf, AreLeastUnmet}

total : IsTotalOrder row_lists_cmp
total = lists_total (lists_total (lists_total nat_cmp_total))

pub not_above : (o : Ordering) → o ≢ Greater → is_gt o ≡ false
not_above Less n = refl
not_above Equal n = refl
not_above Greater n = absurd (n refl)

pub never_above : (o : Ordering) → is_gt o ≡ false → o ≢ Greater
never_above o e g = clash (sym e ∙ ap is_gt g)
  where
    clash : false ≡ true → ⊥
    clash h = cc

through : (x y z : List (List (List ℕ))) → row_lists_cmp x y ≢ Greater → row_lists_cmp y z ≢ Greater → row_lists_cmp x z ≢ Greater
through x y z first second = never_above (row_lists_cmp x z) (upto total x y z (not_above (row_lists_cmp x y) first) (not_above (row_lists_cmp y z) second))

itself_not_above : (x : List (List (List ℕ))) → row_lists_cmp x x ≢ Greater
itself_not_above x g = clash (sym (tied_itself total x) ∙ g)
  where
    clash : Equal ≡ Greater → ⊥
    clash h = cc

-- the first of two in their order
pub record IsLesser (first rows least : List (List (List ℕ))) : Type 0 where
  pub one : (least ≡ first) ⊎ (least ≡ rows)
  pub below_first : row_lists_cmp least first ≢ Greater
  pub below_rows : row_lists_cmp least rows ≢ Greater

min_is : (first rows : List (List (List ℕ))) → IsLesser first rows (ord_min row_lists_cmp first rows)
min_is first rows = by (row_lists_cmp rows first) refl
  where
    pick : (o : Ordering) → row_lists_cmp rows first ≡ o → cond (is_lt o) rows first ≡ ord_min row_lists_cmp first rows
    pick o e = ap (λ p. cond (is_lt p) rows first) (sym e)

    stays : (o : Ordering) → row_lists_cmp rows first ≡ o → o ≢ Less → IsLesser first rows first
    stays o e n = record {
      one = inl refl;
      below_first = itself_not_above first;
      below_rows = λ g. n (sym e ∙ total.antisymm rows first ∙ ap ordering_reverse g);
    }

    goes : row_lists_cmp rows first ≡ Less → IsLesser first rows rows
    goes e = record {
      one = inr refl;
      below_first = λ g. clash (sym e ∙ g);
      below_rows = itself_not_above rows;
    }
      where
        clash : Less ≡ Greater → ⊥
        clash h = cc

    no_less_equal : ◌≢◌ {A = Ordering} Equal Less
    no_less_equal h = cc

    no_less_greater : ◌≢◌ {A = Ordering} Greater Less
    no_less_greater h = cc

    by : (o : Ordering) → row_lists_cmp rows first ≡ o → IsLesser first rows (ord_min row_lists_cmp first rows)
    by Less e = subst (IsLesser first rows) (pick Less e) (goes e)
    by Equal e = subst (IsLesser first rows) (pick Equal e) (stays Equal e no_less_equal)
    by Greater e = subst (IsLesser first rows) (pick Greater e) (stays Greater e no_less_greater)

-- where each match of the body extends, the rule is met
all_met : (facts : List Ground) (rule : Rule) (found : List Assignment) → AreBodyMatches facts rule found → ((one : Assignment) → Contains found one → IsMet facts rule one.vals) → MeetsRule Const (GroundsOf facts) rule
all_met facts rule found m met a body =
    let (b, ext) = met (record { vals = values_of (bound rule.body) a }) (m.all a body) in
    (b, record { agrees = λ x occurs. ext.agrees x occurs ∙ listed x (occurs_below rule.body x occurs); head = ext.head })
  where
    listed : (x : ℕ) → x < bound rule.body → at (values_of (bound rule.body) a) x ≡ a x
    listed x l = get_or-map-range_with_len a 0 (bound rule.body) x x (Label 0) l (omega arith)

unmet_match : (facts : List Ground) (rule : Rule) (found : List Assignment) (one : Assignment) → AreBodyMatches facts rule found → Contains found one → IsUnmet facts rule one.vals → IsUnmetMatch facts rule one.vals
unmet_match facts rule found one m c u = record { width = m.width one c; body = m.each one c; unmet = u }

module _ (facts : List Ground) (rule : Rule) where
  abbrev rows_of : Assignment → List (List (List ℕ))
  rows_of one = map (row_under (text_at one.vals)) rule.body

  pub least_none : AreLeastRowsIf facts rule [] None
  least_none one c = absurd (contains_none one c)

  met_more : (done : List Assignment) (one : Assignment) (least : Option (List (List (List ℕ)))) → IsMet facts rule one.vals → AreLeastRowsIf facts rule done least → AreLeastRowsIf facts rule (done ++ one ∷ []) least
  met_more done one None met all = λ other c.
      ⊎_elim (λ h. all other h) (λ e. subst (λ (m : Assignment). IsMet facts rule m.vals) e met) (Contains-push_cases done one other c)
  met_more done one (Some rows) met all = record {
    come = let (m, among, u, e) = all.come in (m, Contains-append_left done (one ∷ []) m among, u, e);
    least = λ other c unmet.
        ⊎_elim (λ h. all.least other h unmet) (λ e. let (b, ext) = subst (λ (m : Assignment). IsMet facts rule m.vals) e met in absurd (unmet b ext)) (Contains-push_cases done one other c);
  }

  unmet_more : (done : List Assignment) (one : Assignment) (least : Option (List (List (List ℕ)))) (rows : List (List (List ℕ))) → IsUnmet facts rule one.vals → rows ≡ rows_of one →
      AreLeastRowsIf facts rule done least → AreLeastRows facts rule (done ++ one ∷ []) (lesser least rows)
  unmet_more done one None rows u is all = record {
    come = (one, Contains-push done one, u, is);
    least = λ other c unmet.
        ⊎_elim (λ h. let (b, ext) = all other h in absurd (unmet b ext)) (λ e. subst (λ (m : Assignment). row_lists_cmp rows (rows_of m) ≢ Greater) e (subst (λ z. row_lists_cmp rows z ≢ Greater) is (itself_not_above rows))) (Contains-push_cases done one other c);
  }
  unmet_more done one (Some first) rows u is all = record {
    come = ⊎_elim (λ e. let (m, among, w, f) = all.come in (m, Contains-append_left done (one ∷ []) m among, w, e ∙ f)) (λ e. (one, Contains-push done one, u, e ∙ is)) min.one;
    least = λ other c unmet.
        ⊎_elim (λ h. through (ord_min row_lists_cmp first rows) first (rows_of other) min.below_first (all.least other h unmet))
        (λ e. subst (λ (m : Assignment). row_lists_cmp (ord_min row_lists_cmp first rows) (rows_of m) ≢ Greater) e (subst (λ z. row_lists_cmp (ord_min row_lists_cmp first rows) z ≢ Greater) is min.below_rows)) (Contains-push_cases done one other c);
  }
    where
      min : IsLesser first rows (ord_min row_lists_cmp first rows)
      min = min_is first rows

  -- one turn of the loop over the matches
  module _ (found : List Assignment) (i : ℕ) (one : Assignment) (l : i < length found) (is : one ≡ slice_index_or found i one) where
    pub turn_met : (least : Option (List (List (List ℕ)))) → IsMet facts rule one.vals → AreLeastRowsIf facts rule (take i found) least → AreLeastRowsIf facts rule (take (i + 1) found) least
    unfolding met_more
    turn_met least met all = subst (λ done. AreLeastRowsIf facts rule done least) (sym (take_indexed found i one l is)) (met_more (take i found) one least met all)

    pub turn_unmet : (least : Option (List (List (List ℕ)))) (rows next : List (List (List ℕ))) → IsUnmet facts rule one.vals → rows ≡ rows_of one → next ≡ lesser least rows →
        AreLeastRowsIf facts rule (take i found) least → AreLeastRows facts rule (take (i + 1) found) next
    unfolding unmet_more
    turn_unmet least rows next u e f all = subst (λ done. AreLeastRows facts rule done next) (sym (take_indexed found i one l is)) (subst (AreLeastRows facts rule (take i found ++ one ∷ [])) (sym f) (unmet_more (take i found) one least rows u e all))

  values_are : (values : List Val) → length values ≡ bound rule.body → values_of (bound rule.body) (at values) ≡ values
  values_are values width = ext_get_or (Label 0) (values_of (bound rule.body) (at values)) values (length-map-range_with_len (at values) 0 (bound rule.body) ∙ sym width)
      (λ x l. get_or-map-range_with_len (at values) 0 (bound rule.body) x x (Label 0) (subst (λ n. x < n) (length-map-range_with_len (at values) 0 (bound rule.body)) l) (omega arith))

  pub least_all : (found : List Assignment) (rows : List (List (List ℕ))) (told : List Fact) → AreBodyMatches facts rule found → AreLeastRows facts rule found rows →
      ((a : ℕ → List ℕ) → rows ≡ map (row_under a) rule.body → told ≡ facts_under a rule.body) → AreLeastUnmet facts rule told
  unfolding values_are
  least_all found rows told m all made = record {
    come = let (one, among, u, e) = all.come in (one.vals, unmet_match facts rule found one m among u, made (text_at one.vals) e);
    least = λ values um.
        let among : Contains found (record { vals = values }) = subst (λ z. Contains found (record { vals = z })) (values_are values um.width) (m.all (at values) um.body) in
        subst (λ z. row_lists_cmp z (map (row_under (text_at values)) rule.body) ≢ Greater) (sym same) (all.least (record { vals = values }) among um.unmet);
  }
    where
      rows_under : (a : ℕ → List ℕ) (atoms : List Atom) → map (λ (fact : Fact). fact.row) (facts_under a atoms) ≡ map (row_under a) atoms
      rows_under a [] = refl
      rows_under a (atom ∷ atoms) = ap (λ l. row_under a atom ∷ l) (rows_under a atoms)

      same : map (λ (fact : Fact). fact.row) told ≡ rows
      same = let (one, among, u, e) = all.come in ap (map (λ (fact : Fact). fact.row)) (made (text_at one.vals) e) ∙ rows_under (text_at one.vals) rule.body ∙ sym e

  -- what is left where the loop ends
  module _ (found items : List Assignment) (n : ℕ) (is : items ≡ found) (l : length items ≤ n) (m : AreBodyMatches facts rule found) where
    gone : take n items ≡ found
    gone = take_all n items l ∙ is

    pub none_left : (least : Option (List (List (List ℕ)))) → least ≡ None → AreLeastRowsIf facts rule (take n items) least → MeetsRule Const (GroundsOf facts) rule
    unfolding gone
    none_left least e all = all_met facts rule found m (subst (λ z. AreLeastRowsIf facts rule found z) e (subst (λ z. AreLeastRowsIf facts rule z least) gone all))

    pub some_left : (least : Option (List (List (List ℕ)))) (rows : List (List (List ℕ))) (told : List Fact) → least ≡ Some rows → AreLeastRowsIf facts rule (take n items) least →
        ((a : ℕ → List ℕ) → rows ≡ map (row_under a) rule.body → told ≡ facts_under a rule.body) → AreLeastUnmet facts rule told
    unfolding gone
    some_left least rows told e all made = least_all found rows told m (subst (λ z. AreLeastRowsIf facts rule found z) e (subst (λ z. AreLeastRowsIf facts rule z least) gone all)) made
