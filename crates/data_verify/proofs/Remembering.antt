-- What remains of a rule and is met is remembered by its rows.
use Rattle.std.proofs.Common.{◌≡◌, ℕ, List, [], ◌∷◌, ◌++◌, map, length, drop, true, false, cond, refl, sym, ap, ◌∙◌, subst}
use Rattle.std.specs.List.{list_any}
use Rattle.std.specs.BTreeSet.{BTreeSet, contains}
use Rattle.std.specs.BTreeMap.{is_at}
use Rattle.std.specs.Ordering.{ordering_then, is_eq}
use Rattle.std.specs.declared.cmp.Ordering.{Ordering}
use Rattle.std.specs.declared.cmp.Ordering.TheVariants.{Less, Equal, Greater}
use Rattle.lists.proofs.Orders.{rows_equal}
use Rattle.lists.proofs.Members.{cons_same, head_is, tail_is}
use Rattle.meaning.specs.declared.types.Rule.{Rule}
use Rattle.meaning.specs.declared.types.Ground.{Ground}
use Rattle.meaning.specs.declared.types.Val.{Val}
use Rattle.meaning.specs.declared.types.Val.TheVariants.{Const}
use Rattle.meaning.specs.Matching.{MeetsRule, GroundsOf}
use Rattle.homomorphism.specs.Texts.{text_at}
use Rattle.data_verify.specs.Breaking.{row_under, row_lists_cmp}
use Rattle.data_verify.specs.Keys.{row_cmp}
use Rattle.data_verify.specs.Remaining.{remaining_rule}
use Rattle.data_verify.specs.Settling.{rest_under, rows_behind, AreMet}
use Rattle.data_verify.proofs.Splitting.{rule_alike, values_alike}

-- lists of rows that tie are the same
both_tie : (x y : List (List ℕ)) (xs ys : List (List (List ℕ))) (o : Ordering) → row_cmp x y ≡ o →
    (row_lists_cmp xs ys ≡ Equal → xs ≡ ys) → ordering_then o (row_lists_cmp xs ys) ≡ Equal → x ∷ xs ≡ y ∷ ys
both_tie x y xs ys Less h rest t = absurd (cc)
both_tie x y xs ys Equal h rest t = cons_same x y xs ys (rows_equal x y h) (rest t)
both_tie x y xs ys Greater h rest t = absurd (cc)

row_lists_equal : (x y : List (List (List ℕ))) → row_lists_cmp x y ≡ Equal → x ≡ y
unfolding both_tie
row_lists_equal [] [] e = refl
row_lists_equal [] (y ∷ ys) e = absurd (cc)
row_lists_equal (x ∷ xs) [] e = absurd (cc)
row_lists_equal (x ∷ xs) (y ∷ ys) e = both_tie x y xs ys (row_cmp x y) refl (λ t. row_lists_equal xs ys t) e

-- where two lists are the same, so are their halves
halves : {X Y : Type 0} (f g : X → Y) (xs : List X) (ys zs : List Y) → map f xs ++ ys ≡ map g xs ++ zs →
    (map f xs ≡ map g xs) × (ys ≡ zs)
halves f g [] ys zs e = (refl, e)
halves f g (x ∷ xs) ys zs e =
    let (first, second) = halves f g xs ys zs (tail_is (f x) (g x) (map f xs ++ ys) (map g xs ++ zs) e) in
    (cons_same (f x) (g x) (map f xs) (map g xs) (head_is (f x) (g x) (map f xs ++ ys) (map g xs ++ zs) e) first, second)

rest_alike : (rule : Rule) (values other : List Val) → length other ≡ length values →
    rows_behind rule (text_at values) ≡ rows_behind rule (text_at other) →
    rest_under rule values ≡ rest_under rule other
rest_alike rule values other width e =
    let f : ℕ → List ℕ = text_at values in
    let g : ℕ → List ℕ = text_at other in
    let (body, head) = halves (row_under f) (row_under g) (drop 1 rule.body) (map (row_under f) rule.head)
    (map (row_under g) rule.head) e in
    rule_alike (length values) f g rule (λ x l o. values_alike f g (drop 1 rule.body) body x o)
    (λ x l o. values_alike f g rule.head head x o)
    ∙ ap (λ n. remaining_rule n g rule) (sym width)

clash : false ≡ true → ⊥
clash e = cc

pub met_none : (facts : List Ground) (rule : Rule) (width : ℕ) (met : BTreeSet (List (List (List ℕ)))) → met.keys ≡ [] →
    AreMet facts rule width met
met_none facts rule width met none values is e =
    absurd (clash (sym (ap (list_any (is_at (row_lists_cmp (rows_behind rule (text_at values))))) none) ∙ e))

pub met_more : (facts : List Ground) (rule : Rule) (values : List Val) (key : List (List (List ℕ)))
    (was now : BTreeSet (List (List (List ℕ)))) → key ≡ rows_behind rule (text_at values) →
    ((q : List (List (List ℕ))) → contains row_lists_cmp now q ≡ cond (is_at (row_lists_cmp key) q) true
    (contains row_lists_cmp was q)) →
    MeetsRule Const (GroundsOf facts) (rest_under rule values) → AreMet facts rule (length values) was →
    AreMet facts rule (length values) now
met_more facts rule values key was now is put here all other width e = by (row_lists_cmp key q) refl
  where
    q : List (List (List ℕ))
    q = rows_behind rule (text_at other)

    back : (o : Ordering) → row_lists_cmp key q ≡ o → is_eq o ≡ false → contains row_lists_cmp was q ≡ true
    back o h not = ap (λ b. cond b true (contains row_lists_cmp was q)) (sym not ∙ ap is_eq (sym h)) ∙ sym (put q) ∙ e

    by : (o : Ordering) → row_lists_cmp key q ≡ o → MeetsRule Const (GroundsOf facts) (rest_under rule other)
    by Less h = all other width (back Less h refl)
    by Greater h = all other width (back Greater h refl)
    by Equal h = subst (MeetsRule Const (GroundsOf facts))
        (rest_alike rule values other width (sym is ∙ row_lists_equal key q h)) here
