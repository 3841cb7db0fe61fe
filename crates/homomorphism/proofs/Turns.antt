-- Choices of a number below each of several counts, one after another.
use Rattle.std.proofs.Common.{append_assoc, inl, inr, ◌≡◌, ◌⊎◌, ℕ, zero, suc, ◌+◌, ◌-◌, ◌<◌, ◌≤◌, List, [], ◌∷◌, ◌++◌, length, refl, sym, ap, ◌∙◌, subst, ⊎_elim, arith, Contains, map, replicate, slice_index_or}
use Rattle.std.specs.List.{range_with_len}
use Rattle.std.proofs.lemmas.List.Elements.{Contains-append_left, Contains-append_right, Contains-append_cases}
use Rattle.std.proofs.lemmas.List.{append-nil}
use Rattle.lists.proofs.Members.{contains_here, contains_there, contains_cases, contains_map, contains_mapped, contains_none}
use Rattle.homomorphism.specs.declared.turning.Turning.{Turning}
use Rattle.homomorphism.specs.Walks.{spread, turns, AreWithin, Advances, begun, choices}

-- numbers from one to a count
range_step : (n count : ℕ) → n < count → range_with_len n (count - n) ≡ n ∷ range_with_len (n + 1) (count - (n + 1))
range_step n count l = let e : count - n ≡ suc (count - (n + 1)) = omega arith in ap (range_with_len n) e

range_last : (n count : ℕ) → n < count → count ≤ n + 1 → range_with_len n (count - n) ≡ n ∷ []
range_last n count l h = let e : count - n ≡ 1 = omega arith in ap (range_with_len n) e

range_below : (from count n : ℕ) → Contains (range_with_len from count) n → n < from + count
range_below from zero n c = absurd (contains_none n c)
range_below from (suc count) n c = ⊎_elim (λ e. omega (arith, e)) (λ h. let l = range_below (from + 1) count n h in omega arith) (contains_cases from (range_with_len (from + 1) count) n c)

range_has : (from count n : ℕ) → from ≤ n → n < from + count → Contains (range_with_len from count) n
range_has from zero n low l = absurd (omega arith)
range_has from (suc count) n low l = ⊎_elim (λ e. subst (Contains (range_with_len from (suc count))) e (contains_here from (range_with_len (from + 1) count)))
    (λ h. contains_there from (range_with_len (from + 1) count) n (range_has (from + 1) count n h (omega arith))) (here_or_more from n low)
  where
    here_or_more : (a b : ℕ) → a ≤ b → (a ≡ b) ⊎ (a + 1 ≤ b)
    here_or_more zero zero l = inl refl
    here_or_more zero (suc b) l = inr (omega arith)
    here_or_more (suc a) zero l = absurd (omega arith)
    here_or_more (suc a) (suc b) l = ⊎_elim (λ e. inl (ap suc e)) (λ h. inr (omega arith)) (here_or_more a b (omega arith))

-- what is spread has a number below the count before what there was
pub in_spread : (count : ℕ) (more : List (List ℕ)) (one : List ℕ) → Contains (spread 0 count more) one →
    (n : ℕ) × (numbers : List ℕ) × (n ∷ numbers ≡ one) × (n < count) × Contains more numbers
in_spread count [] one c = absurd (contains_none one c)
in_spread count (numbers ∷ more) one c = ⊎_elim
    (λ h. let (n, among, e) = contains_mapped (λ (n : ℕ). n ∷ numbers) (range_with_len 0 (count - 0)) one h in let l = range_below 0 (count - 0) n among in (n, numbers, e, omega arith, contains_here numbers more))
    (λ h. let (n, others, e, l, among) = in_spread count more one h in (n, others, e, l, contains_there numbers more others among))
    (Contains-append_cases (map (λ (n : ℕ). n ∷ numbers) (range_with_len 0 (count - 0))) (spread 0 count more) one c)

pub spread_has : (count : ℕ) (more : List (List ℕ)) (n : ℕ) (numbers : List ℕ) → n < count → Contains more numbers →
    Contains (spread 0 count more) (n ∷ numbers)
spread_has count [] n numbers l c = absurd (contains_none numbers c)
spread_has count (others ∷ more) n numbers l c = ⊎_elim
    (λ e. Contains-append_left (map (λ (k : ℕ). k ∷ others) (range_with_len 0 (count - 0))) (spread 0 count more) (n ∷ numbers)
    (subst (λ (z : List ℕ). Contains (map (λ (k : ℕ). k ∷ others) (range_with_len 0 (count - 0))) (n ∷ z)) e (contains_map (λ (k : ℕ). k ∷ others) (range_with_len 0 (count - 0)) n (range_has 0 (count - 0) n (omega arith) (omega arith)))))
    (λ h. Contains-append_right (map (λ (k : ℕ). k ∷ others) (range_with_len 0 (count - 0))) (spread 0 count more) (n ∷ numbers) (spread_has count more n numbers l h))
    (contains_cases others more numbers c)

-- all choices are those from the first on
pub turns_within : (counts one : List ℕ) → Contains (turns counts (replicate (length counts) 0)) one → AreWithin counts one
turns_within [] one c = ⊎_elim (λ e. subst (AreWithin []) e tt) (λ h. absurd (contains_none one h)) (contains_cases [] [] one c)
turns_within (count ∷ counts) one c =
    let (n, numbers, e, l, among) = in_spread count (turns counts (replicate (length counts) 0)) one c in
    subst (AreWithin (count ∷ counts)) e (l, turns_within counts numbers among)

pub turns_has : (counts one : List ℕ) → AreWithin counts one → Contains (turns counts (replicate (length counts) 0)) one
turns_has [] [] w = contains_here [] []
turns_has [] (n ∷ numbers) w = absurd w
turns_has (count ∷ counts) [] w = absurd w
turns_has (count ∷ counts) (n ∷ numbers) (l, w) =
    spread_has count (turns counts (replicate (length counts) 0)) n numbers l (turns_has counts numbers w)

pub first_within : (counts : List ℕ) → ((i : ℕ) → i < length counts → 0 < slice_index_or counts i 0) →
    AreWithin counts (replicate (length counts) 0)
first_within [] positive = tt
first_within (count ∷ counts) positive = (positive 0 (omega arith), first_within counts (λ i l. positive (suc i) (omega arith)))

-- a number of a choice is below the count at its place
pub within_at : (counts numbers : List ℕ) → AreWithin counts numbers → (i : ℕ) → i < length counts →
    slice_index_or numbers i 0 < slice_index_or counts i 0
within_at [] numbers w i l = absurd (omega arith)
within_at (count ∷ counts) [] w i l = absurd w
within_at (count ∷ counts) (n ∷ numbers) (low, w) zero l = low
within_at (count ∷ counts) (n ∷ numbers) (low, w) (suc i) l = within_at counts numbers w i (omega arith)

-- a choice is followed by others
pub turns_first : (counts numbers : List ℕ) → AreWithin counts numbers →
    (more : List (List ℕ)) × (turns counts numbers ≡ numbers ∷ more)
turns_first [] [] w = ([], refl)
turns_first [] (n ∷ numbers) w = absurd w
turns_first (count ∷ counts) [] w = absurd w
turns_first (count ∷ counts) (n ∷ numbers) (l, w) =
    let (more, e) = turns_first counts numbers w in
    (_, ap (spread n count) e ∙ ap (λ (r : List ℕ). map (λ (k : ℕ). k ∷ numbers) r ++ spread 0 count more) (range_step n count l))

-- the next number below the first count
pub turns_next : (counts : List ℕ) (count n : ℕ) (numbers : List ℕ) → n + 1 < count → AreWithin counts numbers →
    turns (count ∷ counts) (n ∷ numbers) ≡ (n ∷ numbers) ∷ turns (count ∷ counts) ((n + 1) ∷ numbers)
turns_next counts count n numbers l w =
    let (more, e) = turns_first counts numbers w in
    ap (spread n count) e ∙ ap (λ (r : List ℕ). map (λ (k : ℕ). k ∷ numbers) r ++ spread 0 count more) (range_step n count (omega arith))
    ∙ sym (ap (λ (z : List (List ℕ)). (n ∷ numbers) ∷ spread (n + 1) count z) e)

-- the last number below the first count
pub turns_last : (counts : List ℕ) (count n : ℕ) (numbers : List ℕ) (more : List (List ℕ)) → n < count → count ≤ n + 1 →
    turns counts numbers ≡ numbers ∷ more →
    turns (count ∷ counts) (n ∷ numbers) ≡ (n ∷ numbers) ∷ spread 0 count more
turns_last counts count n numbers more l h e =
    ap (spread n count) e ∙ ap (λ (r : List ℕ). map (λ (k : ℕ). k ∷ numbers) r ++ spread 0 count more) (range_last n count l h)

-- without a count, or without a number, there is one choice
pub ends_alone : (counts numbers : List ℕ) → AreWithin counts numbers → (numbers ≡ []) ⊎ (counts ≡ []) →
    turns counts numbers ≡ numbers ∷ []
ends_alone [] [] w e = refl
ends_alone [] (n ∷ numbers) w e = absurd w
ends_alone (count ∷ counts) [] w e = absurd w
ends_alone (count ∷ counts) (n ∷ numbers) w e = ⊎_elim (λ h. absurd (some n numbers h)) (λ h. absurd (some count counts h)) e
  where
    some : (y : ℕ) (ys : List ℕ) → y ∷ ys ≡ [] → ⊥
    some y ys h = cc

-- the first count and the first number, and the others
module _ (counts others : List ℕ) (count : ℕ) (numbers later : List ℕ) (n : ℕ) (e : counts ≡ count ∷ others) (f : numbers ≡ n ∷ later) (w : AreWithin counts numbers) where
  pub split_within : (n < count) × AreWithin others later
  split_within = subst (λ (z : List ℕ). AreWithin z (n ∷ later)) e (subst (AreWithin counts) f w)

  pub advances_here : (before after : List ℕ) → n + 1 < count → after ≡ (before ++ (n + 1) ∷ []) ++ later →
      Advances counts numbers before after
  unfolding split_within
  advances_here before after l is = (
    (n + 1) ∷ later,
    is ∙ append_assoc before ((n + 1) ∷ []) later,
    subst (λ (z : List ℕ). AreWithin z ((n + 1) ∷ later)) (sym e) (l, split_within.1),
    subst (λ (z : List ℕ). turns z numbers ≡ numbers ∷ turns z ((n + 1) ∷ later)) (sym e)
        (subst (λ (ns : List ℕ). turns (count ∷ others) ns ≡ ns ∷ turns (count ∷ others) ((n + 1) ∷ later)) (sym f) (turns_next others count n later l split_within.1)),
  )

  pub advances_later : (before after : List ℕ) → count ≤ n + 1 → Advances others later (before ++ 0 ∷ []) after →
      Advances counts numbers before after
  unfolding split_within
  advances_later before after h (next, is, within, t) = (
    0 ∷ next,
    is ∙ append_assoc before (0 ∷ []) next,
    subst (λ (z : List ℕ). AreWithin z (0 ∷ next)) (sym e) (let l = split_within.0 in omega arith, within),
    subst (λ (z : List ℕ). turns z numbers ≡ numbers ∷ turns z (0 ∷ next)) (sym e)
        (subst (λ (ns : List ℕ). turns (count ∷ others) ns ≡ ns ∷ turns (count ∷ others) (0 ∷ next)) (sym f) (turns_last others count n later (turns others next) split_within.0 h t)),
  )

  pub last_later : count ≤ n + 1 → turns others later ≡ later ∷ [] → turns counts numbers ≡ numbers ∷ []
  unfolding split_within
  last_later h t = subst (λ (z : List ℕ). turns z numbers ≡ numbers ∷ []) (sym e)
      (subst (λ (ns : List ℕ). turns (count ∷ others) ns ≡ ns ∷ []) (sym f) (turns_last others count n later [] split_within.0 h t))

-- ---- several turnings

pub choices_append : (turnings : List Turning) (one : Turning) →
    choices (turnings ++ one ∷ []) ≡ turns one.counts one.numbers ++ choices turnings
choices_append [] one = sym (append-nil (turns one.counts one.numbers))
choices_append (first ∷ turnings) one =
    ap (λ z. z ++ turns first.counts first.numbers) (choices_append turnings one)
    ∙ append_assoc (turns one.counts one.numbers) (choices turnings) (turns first.counts first.numbers)

-- the choices of turnings that begin are those below the counts of one of them
pub begun_from : (groups : List (List ℕ)) (one : List ℕ) → Contains (choices (map begun groups)) one →
    (counts : List ℕ) × Contains groups counts × AreWithin counts one
begun_from [] one c = absurd (contains_none one c)
begun_from (counts ∷ groups) one c = ⊎_elim
    (λ h. let (more, among, w) = begun_from groups one h in (more, contains_there counts groups more among, w))
    (λ h. (counts, contains_here counts groups, turns_within counts one h))
    (Contains-append_cases (choices (map begun groups)) (turns counts (replicate (length counts) 0)) one c)

pub begun_has : (groups : List (List ℕ)) (counts one : List ℕ) → Contains groups counts → AreWithin counts one →
    Contains (choices (map begun groups)) one
begun_has [] counts one c w = absurd (contains_none counts c)
begun_has (first ∷ groups) counts one c w = ⊎_elim
    (λ e. Contains-append_right (choices (map begun groups)) (turns first (replicate (length first) 0)) one
    (turns_has first one (subst (λ (z : List ℕ). AreWithin z one) (sym e) w)))
    (λ h. Contains-append_left (choices (map begun groups)) (turns first (replicate (length first) 0)) one (begun_has groups counts one h w))
    (contains_cases first groups counts c)
