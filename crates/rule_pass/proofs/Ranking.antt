-- Numbers that are sorted by level and then by number are the rule order.
use Rattle.std.proofs.Common.{◌≡◌, ◌⊎◌, ◌+◌, ◌-◌, ◌∙◌, ◌<◌, ◌≤◌, ℕ, zero, suc, List, [], ◌∷◌, ◌++◌, Bool, false, Some, length, map, eqb, get_or, slice_get, refl, sym, ap, subst, inl, inr, ⊎_elim, arith}
use Rattle.std.specs.Prelude.{Contains, slice_index}
use Rattle.std.specs.List.{AllByRecursion, IsDistinct, range_with_len}
use Rattle.std.specs.List.Sorted.{IsPermutation, IsSortedBy}
use Rattle.std.specs.Ordering.{nat_cmp, ordering_then, is_lt, MatchOrdering}
use Rattle.std.specs.declared.cmp.Ordering.{Ordering}
use Rattle.std.specs.declared.cmp.Ordering.TheVariants.{Less, Equal, Greater}
use Rattle.std.proofs.lemmas.Bool.Decides.{nat_tests}
use Rattle.std.proofs.lemmas.Cmp.{ranked}
use Rattle.std.proofs.lemmas.Map.Keys.{IsDistinct-IsPermutation, apart_from_distinct}
use Rattle.std.proofs.lemmas.List.Sorted.{IsPermutation-map, IsPermutation-sym, Contains-permutation}
use Rattle.std.proofs.lemmas.List.Elements.{Contains-push_cases}
use Rattle.std.proofs.lemmas.Option.{slice_get_within, slice_get-get_or}
use Rattle.lists.proofs.Members.{contains_map, contains_mapped, contains_there}
use Rattle.meaning.specs.declared.types.Atom.{Atom}
use Rattle.meaning.specs.declared.types.Rule.{Rule}
use Rattle.meaning.specs.RuleOrder.{IsLevel, IsRuleLevel, StandsBefore}
use Rattle.rule_pass.specs.declared.order.Ranked.{Ranked}
use Rattle.rule_pass.specs.Levels.{greatest_level}
use Rattle.rule_pass.specs.Order.{IsRuleOrder}
use Rattle.rule_pass.specs.Orderly.{AreOrderly}
use Rattle.rule_pass.specs.Ranks.{AreRanked}
use Rattle.rule_pass.proofs.Tables.{level_below, level_found}

-- the greatest entry at a body's relations is the rule's level
pub rule_level : (rules : List Rule) (levels : List ℕ) (rule : Rule) → 1 ≤ length rule.body → ((rel : ℕ) → IsLevel rules rel (slice_index levels rel)) → IsRuleLevel rules rule (greatest_level levels rule.body)
rule_level rules levels rule some are = record {
  reached = found rule.body some;
  greatest = λ atom n among level.
      let most = (are atom.rel).greatest n level.reached in let low = level_below levels rule.body atom among in omega arith;
}
  where
    found : (atoms : List Atom) → 1 ≤ length atoms → (atom : Atom) × Contains atoms atom × IsLevel rules atom.rel (greatest_level levels atoms)
    found [] some = absurd (omega arith)
    found (first ∷ atoms) some = let (atom, among, is) = level_found levels first atoms in (atom, among, subst (IsLevel rules atom.rel) is (are atom.rel))

-- the list while it is made
range_push : (n first last : ℕ) → last ≡ first + n → range_with_len first (suc n) ≡ range_with_len first n ++ last ∷ []
range_push zero first last e = ap (λ (x : ℕ). x ∷ []) (let same : first ≡ last = omega arith in same)
range_push (suc n) first last e = ap (λ (xs : List ℕ). first ∷ xs) (range_push n (first + 1) last (omega arith))

map_push : (xs : List Ranked) (x : Ranked) → map (λ (one : Ranked). one.number) (xs ++ x ∷ []) ≡ map (λ (one : Ranked). one.number) xs ++ x.number ∷ []
map_push [] x = refl
map_push (y ∷ xs) x = ap (λ (ns : List ℕ). y.number ∷ ns) (map_push xs x)

-- the numbers so far, with the levels of their rules
pub record AreRankedSoFar (rules : List Rule) (levels : List ℕ) (count : ℕ) (ranked : List Ranked) : Type 0 where
  pub numbers : map (λ (one : Ranked). one.number) ranked ≡ range_with_len 0 count
  pub level : (one : Ranked) → Contains ranked one → (rule : Rule) × (slice_get rules one.number ≡ Some rule) × (one.level ≡ greatest_level levels rule.body)

pub ranked_more : (rules : List Rule) (levels : List ℕ) (count level : ℕ) (rule : Rule) (ranked : List Ranked) → count < length rules → rule ≡ get_or rules count rule → level ≡ greatest_level levels rule.body
    → AreRankedSoFar rules levels count ranked → AreRankedSoFar rules levels (count + 1) (ranked ++ record { level = level; number = count } ∷ [])
ranked_more rules levels count level rule done fits is leveled r = record {
  numbers = map_push done (record { level = level; number = count }) ∙ ap (λ ns. ns ++ count ∷ []) r.numbers ∙ sym (range_push count 0 count (omega arith)) ∙ ap (range_with_len 0) (one_more count);
  level = λ one among. ⊎_elim (λ h. r.level one h)
      (λ same. subst (λ (x : Ranked). (rule : Rule) × (slice_get rules x.number ≡ Some rule) × (x.level ≡ greatest_level levels rule.body)) same
      (rule, slice_get-get_or rules count rule fits ∙ ap Some (sym is), leveled))
      (Contains-push_cases done (record { level = level; number = count }) one among);
}
  where
    one_more : (n : ℕ) → suc n ≡ n + 1
    one_more n = omega arith

-- the order of levels and numbers
IsNotAfter : Ranked → Ranked → Type 0
IsNotAfter first second = (first.level < second.level) ⊎ ((first.level ≡ second.level) × (first.number ≤ second.number))

not_after : (o p : Ordering) (x y u v : ℕ) → MatchOrdering o (x < y) (x ≡ y) (y < x) → MatchOrdering p (u < v) (u ≡ v) (v < u) → is_lt (ordering_then o p) ≡ false → (y < x) ⊎ ((y ≡ x) × (v ≤ u))
not_after Less p x y u v first second not = absurd (cc)
not_after Equal Less x y u v first second not = absurd (cc)
not_after Equal Equal x y u v first second not = inr (sym first, omega arith)
not_after Equal Greater x y u v first second not = inr (sym first, omega arith)
not_after Greater p x y u v first second not = inl first

not_after_on : (first second third : Ranked) → IsNotAfter first second → IsNotAfter second third → IsNotAfter first third
unfolding IsNotAfter
not_after_on first second third a b =
    ⊎_elim (λ x. ⊎_elim (λ y. inl (omega arith)) (λ (y, z). inl (omega arith)) b) (λ (x, w). ⊎_elim (λ y. inl (omega arith)) (λ (y, z). inr (omega arith, omega arith)) b) a

abbrev is_before : Ranked → Ranked → Bool
is_before x y = is_lt (ordering_then (nat_cmp x.level y.level) (nat_cmp x.number y.number))

module _ (xs : List Ranked) (d : Ranked) (sorted : IsSortedBy is_before xs) where
  next : (k : ℕ) → k + 1 < length xs → IsNotAfter (get_or xs k d) (get_or xs (k + 1) d)
  unfolding IsNotAfter
  next k l =
      let x : Ranked = get_or xs (k + 1) d in let y : Ranked = get_or xs k d in
      not_after (nat_cmp x.level y.level) (nat_cmp x.number y.number) x.level y.level x.number y.number (ranked x.level y.level (nat_cmp x.level y.level) refl) (ranked x.number y.number (nat_cmp x.number y.number) refl)
      (sorted k d (omega arith) l)

  later : (n k : ℕ) → k + n < length xs → IsNotAfter (get_or xs k d) (get_or xs (k + n) d)
  unfolding IsNotAfter
  later zero k l = inr (ap (λ i. (get_or xs i d).level) (omega arith), omega (arith, ap (λ i. (get_or xs i d).number) (at k)))
    where
      at : (k : ℕ) → k + 0 ≡ k
      at k = omega arith
  later (suc n) k l = not_after_on (get_or xs k d) (get_or xs (k + n) d) (get_or xs (k + suc n) d) (later n k (omega arith))
      (subst (λ i. IsNotAfter (get_or xs (k + n) d) (get_or xs i d)) (at k n) (next (k + n) (omega arith)))
    where
      at : (k n : ℕ) → k + n + 1 ≡ k + suc n
      at k n = omega arith

number_at : (xs : List Ranked) (k : ℕ) (d : Ranked) → k < length xs → get_or (map (λ (one : Ranked). one.number) xs) k 0 ≡ (get_or xs k d).number
number_at [] k d l = absurd (omega arith)
number_at (x ∷ xs) zero d l = refl
number_at (x ∷ xs) (suc k) d l = number_at xs k d (omega arith)

map_long : (xs : List Ranked) → length (map (λ (one : Ranked). one.number) xs) ≡ length xs
map_long [] = refl
map_long (x ∷ xs) = omega (arith, map_long xs)

there : (xs : List Ranked) (k : ℕ) (d : Ranked) → k < length xs → Contains xs (get_or xs k d)
there [] k d l = absurd (omega arith)
there (x ∷ xs) zero d l = (0, omega arith, refl)
there (x ∷ xs) (suc k) d l = contains_there x xs (get_or xs k d) (there xs k d (omega arith))

range_apart : (n a b : ℕ) → b < a → AllByRecursion (λ y. eqb b y ≡ false) (range_with_len a n)
range_apart zero a b l = tt
range_apart (suc n) a b l = (grind (arith, nat_tests), range_apart n (a + 1) b (omega arith))

range_distinct : (n a : ℕ) → IsDistinct eqb (range_with_len a n)
unfolding IsDistinct
range_distinct zero a = tt
range_distinct (suc n) a = (range_apart n (a + 1) a (omega arith), range_distinct n (a + 1))

in_range : (n first number : ℕ) → first ≤ number → number < first + n → Contains (range_with_len first n) number
in_range zero first number low high = absurd (omega arith)
in_range (suc n) first number low high = ⊎_elim (λ same. (0, omega arith, sym same)) (λ more. contains_there first (range_with_len (first + 1) n) number (in_range n (first + 1) number (omega arith) (omega arith))) (which number first low)
  where
    which : (number first : ℕ) → first ≤ number → (number ≡ first) ⊎ (first < number)
    which zero zero l = inl refl
    which zero (suc first) l = absurd (omega arith)
    which (suc number) zero l = inr (omega arith)
    which (suc number) (suc first) l = ⊎_elim (λ e. inl (ap suc e)) (λ h. inr (omega arith)) (which number first (omega arith))

flips : (x y : ℕ) → eqb x y ≡ eqb y x
flips x y = grind (arith, nat_tests)

pub sorted_is_order : (rules : List Rule) (levels : List ℕ) (made xs : List Ranked) → AreOrderly rules → ((rel : ℕ) → IsLevel rules rel (slice_index levels rel)) → AreRanked rules levels made → IsPermutation made xs → IsSortedBy is_before xs
    → IsRuleOrder rules (map (λ (one : Ranked). one.number) xs)
unfolding IsNotAfter
sorted_is_order rules levels made xs orderly are ranks moved sorted = record {
  levels = λ rel. (slice_index levels rel, are rel);
  each = λ number fits.
      let (one, among, is) = contains_mapped (λ (x : Ranked). x.number) made number (subst (λ ns. Contains ns number) (sym ranks.numbers) (in_range (length rules) 0 number (omega arith) (omega arith))) in
      subst (Contains (map (λ (x : Ranked). x.number) xs)) is (contains_map (λ (x : Ranked). x.number) xs one (Contains-permutation made xs one moved among));
  within = λ number among.
      let (one, in_xs, is) = contains_mapped (λ (x : Ranked). x.number) xs number among in
      let (rule, got, leveled) = ranks.level one (Contains-permutation xs made one (IsPermutation-sym made xs moved) in_xs) in
      subst (λ n. n < length rules) is (slice_get_within rules one.number rule got);
  ascends = λ j k less fits. ascend j k less (subst (λ n. k < n) (map_long xs) fits);
}
  where
    d : Ranked
    d = record { level = 0; number = 0 }

    apart : IsDistinct eqb (map (λ (x : Ranked). x.number) xs)
    apart = IsDistinct-IsPermutation eqb flips (map (λ (x : Ranked). x.number) made) (map (λ (x : Ranked). x.number) xs) (IsPermutation-map (λ (x : Ranked). x.number) made xs moved)
        (subst (IsDistinct eqb) (sym ranks.numbers) (range_distinct (length rules) 0))

    before : (first second : Ranked) → (eqb first.number second.number ≡ false) → IsNotAfter first second → Contains made first → Contains made second → StandsBefore rules first.number second.number
    before first second differ low in_first in_second =
        let (one, one_got, one_level) = ranks.level first in_first in
        let (two, two_got, two_level) = ranks.level second in_second in
        record {
          first = one;
          second = two;
          low = first.level;
          high = second.level;
          first_is = one_got;
          second_is = two_got;
          first_level = subst (IsRuleLevel rules one) (sym one_level) (rule_level rules levels one (orderly.bodies one (contains one first.number one_got)) are);
          second_level = subst (IsRuleLevel rules two) (sym two_level) (rule_level rules levels two (orderly.bodies two (contains two second.number two_got)) are);
          before = ⊎_elim inl (λ (same, under). inr (same, strictly first.number second.number under differ)) low;
        }
      where
        contains : (rule : Rule) (number : ℕ) → slice_get rules number ≡ Some rule → Contains rules rule
        contains rule number got = (number, slice_get_within rules number rule got, here rules number rule got)
          where
            here : (rules : List Rule) (number : ℕ) (rule : Rule) → slice_get rules number ≡ Some rule → get_or rules number rule ≡ rule
            here [] number rule got = refl
            here (x ∷ rules) zero rule got = one x rule got
              where
                one : (x y : Rule) → Some x ≡ Some y → x ≡ y
                one x y e = cc
            here (x ∷ rules) (suc number) rule got = here rules number rule got

        strictly : (m n : ℕ) → m ≤ n → eqb m n ≡ false → m < n
        strictly m n l differ = grind (arith, nat_tests)

    ascend : (j k : ℕ) → j < k → k < length xs → StandsBefore rules (slice_index (map (λ (x : Ranked). x.number) xs) j) (slice_index (map (λ (x : Ranked). x.number) xs) k)
    ascend j k less fits =
        let differ : eqb (get_or (map (λ (x : Ranked). x.number) xs) j 0) (get_or (map (λ (x : Ranked). x.number) xs) k 0) ≡ false
        = apart_from_distinct eqb (map (λ (x : Ranked). x.number) xs) j k 0 apart less (subst (λ n. k < n) (sym (map_long xs)) fits) in
        let at_j : get_or (map (λ (x : Ranked). x.number) xs) j 0 ≡ (get_or xs j d).number = number_at xs j d (omega arith) in
        let at_k : get_or (map (λ (x : Ranked). x.number) xs) k 0 ≡ (get_or xs k d).number = number_at xs k d fits in
        let there_is : j + (k - j) ≡ k = omega arith in
        let low : IsNotAfter (get_or xs j d) (get_or xs k d) = subst (λ (i : ℕ). IsNotAfter (get_or xs j d) (get_or xs i d)) there_is (later xs d sorted (k - j) j (omega arith)) in
        let stands : StandsBefore rules (get_or xs j d).number (get_or xs k d).number =
        before (get_or xs j d) (get_or xs k d) (subst (λ m. eqb m (get_or xs k d).number ≡ false) at_j (subst (λ n. eqb (get_or (map (λ (x : Ranked). x.number) xs) j 0) n ≡ false) at_k differ)) low
        (Contains-permutation xs made (get_or xs j d) (IsPermutation-sym made xs moved) (there xs j d (omega arith)))
        (Contains-permutation xs made (get_or xs k d) (IsPermutation-sym made xs moved) (there xs k d fits)) in
        subst (λ m. StandsBefore rules m (slice_index (map (λ (x : Ranked). x.number) xs) k)) (sym at_j) (subst (λ n. StandsBefore rules (get_or xs j d).number n) (sym at_k) stands)
