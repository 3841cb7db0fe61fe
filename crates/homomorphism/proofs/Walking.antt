-- The matches of a body that those of its parts make, and that they stand for all.
use Rattle.std.proofs.Common.{◌≡◌, ◌⊎◌, ℕ, zero, suc, ◌+◌, ◌-◌, ◌<◌, ◌≤◌, List, [], ◌∷◌, ◌++◌, length, length-append, Some, None, Option, refl, sym, ap, ◌∙◌, subst, inl, inr, ⊎_elim, arith, Contains, map, replicate, slice_get, slice_index_or}
use Rattle.std.proofs.lemmas.Bool.{cases_lt}
use Rattle.std.proofs.lemmas.List.{length-map, length-replicate, get_or-replicate}
use Rattle.std.proofs.lemmas.List.FromFn.{length-map-range_with_len, get_or-map-range_with_len}
use Rattle.std.proofs.lemmas.Option.{slice_get_within, slice_get-get_or, get_or_from_slice_get}
use Rattle.lists.proofs.Members.{contains_here, contains_map, contains_mapped, contains_one, got_below}
use Rattle.meaning_laws.proofs.Carrying.{occurs_below}
use Rattle.meaning_laws.proofs.Deciding.{same_facts}
use Rattle.meaning_laws.proofs.Joined.{joined_below, joined_above}
use Rattle.meaning.specs.declared.types.Term.TheVariants.{Var}
use Rattle.meaning.specs.declared.types.Val.{Val}
use Rattle.meaning.specs.declared.types.Val.TheVariants.{Const, Label}
use Rattle.meaning.specs.declared.types.Atom.{Atom}
use Rattle.meaning.specs.declared.types.Ground.{Ground}
use Rattle.meaning.specs.declared.types.Rule.{Rule}
use Rattle.meaning.specs.Matching.{AreFacts, OccursIn, GroundsOf, Extends, value_of}
use Rattle.meaning.specs.Triggers.{bound, joined, IsNumbered}
use Rattle.homomorphism.specs.declared.assignment.Assignment.{Assignment}
use Rattle.homomorphism.specs.declared.turning.Turning.{Turning}
use Rattle.homomorphism.specs.Bindings.{Agrees, IsBound, at}
use Rattle.homomorphism.specs.Narrowing.{Gives}
use Rattle.homomorphism.specs.Matches.{IsMatch, AreCovered}
use Rattle.homomorphism.specs.Widening.{AreRuns, taken}
use Rattle.homomorphism.specs.Frontier.{StandForAll, IsStart}
use Rattle.homomorphism.specs.Rules.{IsMet}
use Rattle.homomorphism.specs.Walks.{turns, AreWithin, IsLater, begun, choices, picked_of, together, left_of, AreShut, IsPart, AreParts, AreListed, AreCounts, AreTurned, IsServed, AreGroups}
use Rattle.homomorphism.proofs.Binding.{same_or_not}
use Rattle.homomorphism.proofs.FrontierMatches.{frontier_absent}
use Rattle.homomorphism.proofs.Giving.{body_fits}
use Rattle.homomorphism.proofs.Runs.{stays, below_or_last}
use Rattle.homomorphism.proofs.Starting.{both, agrees_both, in_one, only}
use Rattle.homomorphism.proofs.Touching.{default}
use Rattle.homomorphism.proofs.Turns.{turns_first, first_within, within_at, choices_append, begun_from, begun_has}

-- what holds of each member by its place, holds with one member more
pub each_push : {X : Type 0} (P : ℕ → X → Type 0) (xs : List X) (y d : X) (n : ℕ) → length xs ≡ n →
    ((i : ℕ) → i < n → P i (slice_index_or xs i d)) → P n y → (i : ℕ) → i < n + 1 →
    P i (slice_index_or (xs ++ y ∷ []) i d)
each_push {X} P xs y d n e before last i l = ⊎_elim
    (λ less. subst (P i) (sym (same xs (y ∷ []) i (subst (λ k. i < k) (sym e) less))) (before i less))
    (λ is. subst (P i) (sym (ap (λ k. slice_index_or (xs ++ y ∷ []) k d) (is ∙ sym e) ∙ end xs)) (subst (λ k. P k y) (sym is) last))
    (below_or_last i n l)
  where
    same : (xs ys : List X) (i : ℕ) → i < length xs → slice_index_or (xs ++ ys) i d ≡ slice_index_or xs i d
    same [] ys i l = absurd (omega arith)
    same (x ∷ xs) ys zero l = refl
    same (x ∷ xs) ys (suc i) l = same xs ys i (omega arith)

    end : (xs : List X) → slice_index_or (xs ++ y ∷ []) (length xs) d ≡ y
    end [] = refl
    end (x ∷ xs) = end xs

-- ---- values that are given to a part

module _ (start : List (Option Val)) (owners : List ℕ) (part : ℕ) (given : List (Option Val)) (width : length given ≡ length start) (shut : AreShut start owners part given) where
  pub shut_kept : (x : ℕ) (v : Val) → slice_get start x ≡ Some (Some v) → slice_get given x ≡ Some (Some v)
  shut_kept x v e =
      let l : x < length given = subst (λ n. x < n) (sym width) (slice_get_within start x (Some v) e) in
      slice_get-get_or given x None l ∙ ap Some ((shut x l).kept v (get_or_from_slice_get start x (Some v) None e))

  pub shut_open : (x : ℕ) → slice_get start x ≡ Some None → slice_index_or owners x 0 ≡ part →
      slice_get given x ≡ Some None
  shut_open x e own =
      let l : x < length given = subst (λ n. x < n) (sym width) (slice_get_within start x None e) in
      slice_get-get_or given x None l ∙ ap Some ((shut x l).open_ (get_or_from_slice_get start x None None e) own)

  pub shut_own : (x : ℕ) → slice_get given x ≡ Some None →
      (slice_get start x ≡ Some None) × (slice_index_or owners x 0 ≡ part)
  shut_own x e =
      let l : x < length given = slice_get_within given x None e in
      let r = (shut x l).own (get_or_from_slice_get given x None None e) in
      (slice_get-get_or start x None (subst (λ n. x < n) width l) ∙ ap Some r.0, r.1)

-- ---- one part

zeros_at : (n x : ℕ) → x < n → ◌≡◌ {A = ℕ} (slice_index_or (replicate n 0) x 0) 0
zeros_at n x l = get_or-replicate n x 0 0 l

pub one_part_is : (atoms : List Atom) (start : List (Option Val)) (owners run : List ℕ) (given : List (Option Val)) →
    owners ≡ replicate (length start) 0 → AreRuns (length atoms) (run ∷ []) →
    length given ≡ length start → AreShut start owners 0 given → AreParts atoms start (run ∷ []) owners (given ∷ [])
one_part_is atoms start owners run given zeros runs width shut = record {
  runs_are = runs;
  width = wide;
  below = λ x l. subst (λ n. n < 1) (sym (owner x (subst (λ n. x < n) wide l))) (omega arith);
  count = refl;
  each = only;
}
  where
    wide : length owners ≡ length start
    wide = ap length zeros ∙ length-replicate (length start) 0

    owner : (x : ℕ) → x < length start → slice_index_or owners x 0 ≡ 0
    owner x l = ap (λ z. slice_index_or z x 0) zeros ∙ zeros_at (length start) x l

    only : (i : ℕ) → i < 1 →
        IsPart atoms start owners i (slice_index_or (run ∷ []) i []) (slice_index_or (given ∷ []) i [])
    only zero l = record {
      width = width;
      shut = shut;
      free = λ x occurs e. shut_open start owners 0 given width shut x e (owner x (slice_get_within start x None e));
    }
    only (suc i) l = absurd (omega arith)

-- ---- the number of a match for each part

lengths_at : (lists : List (List Assignment)) (i : ℕ) → i < length lists →
    slice_index_or (map length lists) i 0 ≡ length (slice_index_or lists i [])
lengths_at [] i l = absurd (omega arith)
lengths_at (xs ∷ lists) zero l = refl
lengths_at (xs ∷ lists) (suc i) l = lengths_at lists i (omega arith)

-- each number is that of a member of its list
abbrev AreChosen : List (List Assignment) → List ℕ → Type 0
AreChosen lists numbers = (i : ℕ) → i < length lists → slice_index_or numbers i 0 < length (slice_index_or lists i [])

chosen_below : (lists : List (List Assignment)) (counts numbers : List ℕ) → AreCounts (map length lists) counts →
    AreWithin counts numbers → AreChosen lists numbers
chosen_below lists counts numbers (size, are) w i l =
    let same : length (map length lists) ≡ length lists = length-map lists length in
    let low = within_at counts numbers w i (omega (arith, same, size, l)) in
    let most = (are i (omega (arith, same, l))).1 in
    let all = lengths_at lists i l in
    omega (arith, low, most, all)

-- a member of each list whose members are all gone through, and of others the first
picks : (lists : List (List Assignment)) (counts : List ℕ) (P : ℕ → Assignment → Type 0) → AreCounts (map length lists) counts →
    ((i : ℕ) → i < length lists → (m : Assignment) × Contains (slice_index_or lists i []) m × P i m) →
    (numbers : List ℕ) × AreWithin counts numbers × ((i : ℕ) → i < length lists → slice_index_or counts i 0 ≡ length (slice_index_or lists i []) → P i (picked_of lists numbers i))
picks [] [] P are f = ([], tt, λ i l. absurd (omega arith))
picks [] (count ∷ counts) P (size, are) f = absurd (omega (arith, size))
picks (xs ∷ lists) [] P (size, are) f = absurd (omega (arith, size))
picks (xs ∷ lists) (count ∷ counts) P (size, are) f =
    joined (f 0 (omega arith)) (same_or_not count (length xs)) (picks lists counts (λ i. P (suc i)) (suc_injective size, λ i l. are (suc i) (omega arith)) (λ i l. f (suc i) (omega arith)))
  where
    suc_injective : {m n : ℕ} → suc m ≡ suc n → m ≡ n
    suc_injective e = omega (arith, e)

    joined : (m : Assignment) × Contains xs m × P 0 m → (count ≡ length xs) ⊎ (count ≡ length xs → ⊥) →
        (numbers : List ℕ) × AreWithin counts numbers × ((i : ℕ) → i < length lists → slice_index_or counts i 0 ≡ length (slice_index_or lists i []) → P (suc i) (picked_of lists numbers i)) →
        (numbers : List ℕ) × AreWithin (count ∷ counts) numbers × ((i : ℕ) → i < length (xs ∷ lists) → slice_index_or (count ∷ counts) i 0 ≡ length (slice_index_or (xs ∷ lists) i []) → P i (picked_of (xs ∷ lists) numbers i))
    joined (m, (n, low, e), h) (inl all) (numbers, w, hs) = (n ∷ numbers, (omega (arith, low, all), w), each)
      where
        each : (i : ℕ) → i < length (xs ∷ lists) → slice_index_or (count ∷ counts) i 0 ≡ length (slice_index_or (xs ∷ lists) i []) → P i (picked_of (xs ∷ lists) (n ∷ numbers) i)
        each zero l is = subst (P 0) (sym (default xs n (record { vals = [] }) m low ∙ e)) h
        each (suc i) l is = hs i (omega arith) is
    joined (m, c, h) (inr not) (numbers, w, hs) = (0 ∷ numbers, ((are 0 (omega arith)).0, w), each)
      where
        each : (i : ℕ) → i < length (xs ∷ lists) → slice_index_or (count ∷ counts) i 0 ≡ length (slice_index_or (xs ∷ lists) i []) → P i (picked_of (xs ∷ lists) (0 ∷ numbers) i)
        each zero l is = absurd (not is)
        each (suc i) l is = hs i (omega arith) is

-- ---- parts of atoms

module _ (atoms : List Atom) (start : List (Option Val)) (runs : List (List ℕ)) (owners : List ℕ) (givens : List (List (Option Val))) (p : AreParts atoms start runs owners givens) where
  abbrev run : ℕ → List ℕ
  run i = slice_index_or runs i []

  abbrev given : ℕ → List (Option Val)
  given i = slice_index_or givens i []

  run_among : (i : ℕ) → i < length runs → Contains runs (run i)
  run_among i l = (i, l, default runs i (run i) [] l)

  pub part_within : (i n : ℕ) → i < length runs → Contains (slice_index_or runs i []) n → n < length atoms
  part_within i n l c = p.runs_are.within (run i) n (run_among i l) c

  in_part : (atom : Atom) → Contains atoms atom → (i : ℕ) × (i < length runs) × Contains (taken atoms (run i)) atom
  in_part atom (n, low, e) =
      let (one, (i, l, is), c) = p.runs_are.each n low in
      let here : Contains (run i) n = subst (λ z. Contains z n) (sym is ∙ default runs i one [] l) c in
      (i, l, subst (Contains (taken atoms (run i))) (default atoms n (record { rel = 0; terms = [] }) atom low ∙ e) (contains_map (λ k. slice_index_or atoms k (record { rel = 0; terms = [] })) (run i) n here))

  from_part : (i : ℕ) → i < length runs → (atom : Atom) → Contains (taken atoms (run i)) atom → Contains atoms atom
  from_part i l atom c =
      let (n, among, e) = contains_mapped (λ k. slice_index_or atoms k (record { rel = 0; terms = [] })) (run i) atom c in
      let low : n < length atoms = part_within i n l among in
      (n, low, sym (default atoms n (record { rel = 0; terms = [] }) atom low) ∙ e)

  pub part_fits : bound atoms ≤ length start → (i : ℕ) → i < length runs →
      bound atoms ≤ length (slice_index_or givens i [])
  part_fits fits i l = subst (λ n. bound atoms ≤ n) (sym (p.each i l).width) fits

  -- a variable without a value that stands in a part is the part's own
  owned : (i : ℕ) (l : i < length runs) (x : ℕ) → OccursIn (taken atoms (run i)) x → slice_get start x ≡ Some None →
      slice_index_or owners x 0 ≡ i
  owned i l x occurs e = let r = p.each i l in (shut_own start owners i (given i) r.width r.shut x (r.free x occurs e)).1

  pub part_covered : AreCovered atoms start → (i : ℕ) → i < length runs →
      AreCovered (taken atoms (slice_index_or runs i [])) (slice_index_or givens i [])
  unfolding in_part owned
  part_covered covered i l x low = by (got_below (given i) x low)
    where
      stands : (slice_get start x ≡ Some None) → slice_index_or owners x 0 ≡ i → IsBound start x ⊎ OccursIn atoms x →
          OccursIn (taken atoms (run i)) x
      stands none own h = ⊎_elim (λ (v, b). absurd (clash v (sym none ∙ b)))
          (λ (atom, c, o). let (j, lj, cj) = in_part atom c in (atom, subst (λ k. Contains (taken atoms (run k)) atom) (sym (owned j lj x (atom, cj, o) none) ∙ own) cj, o)) h
        where
          clash : (v : Val) → ◌≡◌ {A = Option (Option Val)} (Some None) (Some (Some v)) → ⊥
          clash v e = cc

      by : (v : Option Val) × (slice_get (given i) x ≡ Some v) → IsBound (given i) x ⊎ OccursIn (taken atoms (run i)) x
      by (Some v, e) = inl (v, e)
      by (None, e) =
          let r = p.each i l in
          let (none, own) = shut_own start owners i (given i) r.width r.shut x e in
          inr (stands none own (covered x (subst (λ n. x < n) r.width low)))

  -- matches of the parts, one of each
  module _ (facts : List Ground) (head : List Atom) (lists : List (List Assignment)) (fits : bound atoms ≤ length start) (count : length lists ≡ length runs) (listed : AreListed facts atoms head runs givens lists) where
    abbrev brought : List ℕ → ℕ → Val
    brought numbers = at (together lists owners numbers).vals

    abbrev owner : ℕ → ℕ
    owner x = slice_index_or owners x 0

    owner_low : (x : ℕ) → x < length owners → owner x < length lists
    owner_low x l = subst (λ n. owner x < n) (sym count) (p.below x l)

    is_match : (numbers : List ℕ) → AreChosen lists numbers → (i : ℕ) → i < length lists →
        IsMatch facts (taken atoms (run i)) (given i) (picked_of lists numbers i).vals
    is_match numbers w i l =
        let low = w i l in
        (listed i l).each (picked_of lists numbers i) (slice_index_or numbers i 0, low, default (slice_index_or lists i []) (slice_index_or numbers i 0) (picked_of lists numbers i) (record { vals = [] }) low)

    value_at : (numbers : List ℕ) (x : ℕ) → x < length owners →
        brought numbers x ≡ at (picked_of lists numbers (owner x)).vals x
    value_at numbers x l = get_or-map-range_with_len (λ y. at (picked_of lists numbers (owner y)).vals y) 0 (length owners) x x (Label 0) l (omega arith)

    value_given : (numbers : List ℕ) → AreChosen lists numbers → (x : ℕ) (v : Val) →
        slice_get start x ≡ Some (Some v) → brought numbers x ≡ v
    value_given numbers w x v e =
        let low : x < length owners = subst (λ n. x < n) (sym p.width) (slice_get_within start x (Some v) e) in
        let l = owner_low x low in
        let r = p.each (owner x) (subst (λ n. owner x < n) count l) in
        value_at numbers x low ∙ (is_match numbers w (owner x) l).agrees x v (shut_kept start owners (owner x) (given (owner x)) r.width r.shut x v e)

    value_part : (numbers : List ℕ) → AreChosen lists numbers → (i : ℕ) → i < length lists → (x : ℕ) →
        OccursIn (taken atoms (run i)) x → at (picked_of lists numbers i).vals x ≡ brought numbers x
    value_part numbers w i l x (atom, c, o) = by (got_below start x low)
      where
        li : i < length runs
        li = subst (λ n. i < n) count l

        low : x < length start
        low = let b : x < bound atoms = occurs_below atoms x (atom, from_part i li atom c, o) in omega arith

        by : (v : Option Val) × (slice_get start x ≡ Some v) → at (picked_of lists numbers i).vals x ≡ brought numbers x
        by (Some v, e) = let r = p.each i li in (is_match numbers w i l).agrees x v (shut_kept start owners i (given i) r.width r.shut x v e) ∙ sym (value_given numbers w x v e)
        by (None, e) = sym (value_at numbers x (subst (λ n. x < n) (sym p.width) low) ∙ ap (λ k. at (picked_of lists numbers k).vals x) (owned i li x (atom, c, o) e))

    together_match : (numbers : List ℕ) → AreChosen lists numbers →
        IsMatch facts atoms start (together lists owners numbers).vals
    together_match numbers w = record {
      width = length-map-range_with_len (λ x. at (picked_of lists numbers (owner x)).vals x) 0 (length owners) ∙ p.width;
      agrees = λ x v e. value_given numbers w x v e;
      facts_are = λ atom c.
          let (i, li, ci) = in_part atom c in
          let l : i < length lists = subst (λ n. i < n) (sym count) li in
          same_facts facts (at (picked_of lists numbers i).vals) (brought numbers) (taken atoms (run i)) (λ x o. value_part numbers w i l x o) (is_match numbers w i l).facts_are atom ci;
    }

    part_facts : (a : ℕ → Val) → Agrees start a → AreFacts Const (GroundsOf facts) a atoms → (i : ℕ) →
        i < length runs → AreFacts Const (GroundsOf facts) (both (given i) a) (taken atoms (run i))
    part_facts a ag are i l =
        let r = p.each i l in
        same_facts facts a (both (given i) a) (taken atoms (run i)) (λ x o. stays start (given i) r.width (shut_kept start owners i (given i) r.width r.shut) a ag x (r.free x o)) (λ atom c. are atom (from_part i l atom c))

    -- a choice below the counts like an assignment, at the variables of the parts that are turned
    like_turned : (counts : List ℕ) (a : ℕ → Val) → AreCounts (map length lists) counts → Agrees start a → AreFacts Const (GroundsOf facts) a atoms →
        (numbers : List ℕ) × AreWithin counts numbers × ((x : ℕ) → OccursIn head x → x < length start → slice_index_or counts (owner x) 0 ≡ slice_index_or (map length lists) (owner x) 0 → a x ≡ brought numbers x)
    like_turned counts a some ag are = by (picks lists counts (λ i m. (x : ℕ) → OccursIn head x → x < length (given i) → both (given i) a x ≡ at m.vals x) some
        (λ i l. (listed i l).all (both (given i) a) (agrees_both (given i) a) (part_facts a ag are i (subst (λ n. i < n) count l))))
      where
        by : (numbers : List ℕ) × AreWithin counts numbers × ((i : ℕ) → i < length lists → slice_index_or counts i 0 ≡ length (slice_index_or lists i []) → (x : ℕ) → OccursIn head x → x < length (given i) → both (given i) a x ≡ at (picked_of lists numbers i).vals x) →
            (numbers : List ℕ) × AreWithin counts numbers × ((x : ℕ) → OccursIn head x → x < length start → slice_index_or counts (owner x) 0 ≡ slice_index_or (map length lists) (owner x) 0 → a x ≡ brought numbers x)
        by (numbers, w, same) = (numbers, w, like)
          where
            like : (x : ℕ) → OccursIn head x → x < length start → slice_index_or counts (owner x) 0 ≡ slice_index_or (map length lists) (owner x) 0 → a x ≡ brought numbers x
            like x o low turned =
                let below : x < length owners = subst (λ n. x < n) (sym p.width) low in
                let l = owner_low x below in
                let r = p.each (owner x) (subst (λ n. owner x < n) count l) in
                stays start (given (owner x)) r.width (shut_kept start owners (owner x) (given (owner x)) r.width r.shut) a ag x (λ e. shut_open start owners (owner x) (given (owner x)) r.width r.shut x e refl)
                ∙ same (owner x) l (turned ∙ lengths_at lists (owner x) l) x o (subst (λ n. x < n) (sym r.width) low) ∙ sym (value_at numbers x below)

    -- where a part has no match, there is none
    pub none_of_part : Contains (map length lists) 0 → (a : ℕ → Val) → Agrees start a → AreFacts Const (GroundsOf facts) a atoms → ⊥
    unfolding part_facts
    none_of_part c a ag are = by (contains_mapped length lists 0 c)
      where
        by : (list : List Assignment) × Contains lists list × (length list ≡ 0) → ⊥
        by (list, (i, l, is), e) =
            let (m, (n, low, at_), like) = (listed i l).all (both (given i) a) (agrees_both (given i) a) (part_facts a ag are i (subst (λ n. i < n) count l)) in
            let same : slice_index_or lists i [] ≡ list = default lists i [] list l ∙ is in
            let here : n < length list = subst (λ (z : List Assignment). n < length z) same low in
            omega (arith, here, e)

-- ---- groups of the head's atoms

-- what there is for each number below a count, as a function
total : {V : Type 0} (n : ℕ) (d : V) (Q : ℕ → V → Type 0) → ((k : ℕ) → k < n → (v : V) × Q k v) →
    (f : ℕ → V) × ((k : ℕ) → k < n → Q k (f k))
total {V} n d Q has = (λ k. pick k (cases_lt k n), λ k l. by k l (cases_lt k n))
  where
    pick : (k : ℕ) → (k < n) ⊎ (n ≤ k) → V
    pick k (inl l) = (has k l).0
    pick k (inr h) = d

    by : (k : ℕ) → k < n → (side : (k < n) ⊎ (n ≤ k)) → Q k (pick k side)
    by k l (inl low) = (has k low).1
    by k l (inr high) = absurd (omega (arith, l, high))

pub one_group : (rule : Rule) (owners whole : List ℕ) → ((i : ℕ) → i < length whole → 0 < slice_index_or whole i 0) →
    AreGroups rule owners whole (whole ∷ [])
one_group rule owners whole positive = record {
  each = λ counts c. subst (AreCounts whole) (contains_one whole counts c) (refl, λ i l. (positive i l, omega arith));
  of = λ x. 0;
  served = λ atom c. (0, omega arith, (λ x o l. refl), λ x o above. refl);
}

pub groups_by_parts : (rule : Rule) (open_ : List (Option Val)) (runs : List (List ℕ)) (shared : List ℕ) (givens : List (List (Option Val))) (owners whole : List ℕ) (groups : List (List ℕ)) →
    AreParts rule.head open_ runs shared givens → ((x : ℕ) → bound rule.body ≤ x → x < bound rule.head → slice_get open_ x ≡ Some None) →
    ((counts : List ℕ) → Contains groups counts → AreCounts whole counts) →
    ((i : ℕ) → i < length runs → IsServed owners whole groups (taken rule.head (slice_index_or runs i []))) → AreGroups rule owners whole groups
groups_by_parts rule open_ runs shared givens owners whole groups p opened each served =
    by (total (length runs) 0 (λ i k. (k < length groups) × AreTurned owners whole (taken rule.head (slice_index_or runs i [])) (slice_index_or groups k []))
    (λ i l. let (k, low, turned) = served i l in (k, (low, turned))))
  where
    by : (place : ℕ → ℕ) × ((i : ℕ) → i < length runs → (place i < length groups) × AreTurned owners whole (taken rule.head (slice_index_or runs i [])) (slice_index_or groups (place i) [])) → AreGroups rule owners whole groups
    by (place, has) = record {
      each = each;
      of = λ x. place (slice_index_or shared x 0);
      served = λ atom c.
          let (i, l, ci) = in_part rule.head open_ runs shared givens p atom c in (
            place i,
            (has i l).0,
            (λ x (other, co, o) low. (has i l).1 x (atom, ci, subst (λ (t : Atom). Contains t.terms (Var x)) (sym (contains_one atom other co)) o) low),
            λ x o above. ap place (owned rule.head open_ runs shared givens p i l x (atom, ci, o) (opened x above (occurs_below rule.head x (atom, c, o)))),
          );
    }

-- the matches that those of the parts make, group by group
module _ (rule : Rule) (fixed start : List (Option Val)) (runs : List (List ℕ)) (owners : List ℕ) (givens : List (List (Option Val))) (facts : List Ground) (lists : List (List Assignment)) (groups : List (List ℕ)) (numbered : IsNumbered rule) (g : Gives [] (bound rule.body) fixed)
    (s : IsStart facts rule.body rule.head fixed start) (p : AreParts rule.body start runs owners givens) (count : length lists ≡ length runs) (listed : AreListed facts rule.body rule.head runs givens lists) where
  wide : length start ≡ bound rule.body
  wide = s.width ∙ body_fits rule fixed g

  -- an assignment of the body's variables has one like it that agrees with the values to begin with
  begins : (a : ℕ → Val) → AreFacts Const (GroundsOf facts) a rule.body →
      (b : ℕ → Val) × Agrees start b × AreFacts Const (GroundsOf facts) b rule.body × ((x : ℕ) → OccursIn rule.head x → x < length fixed → a x ≡ b x)
  begins a are = s.like a (g.complete a (λ x l. absurd (omega arith))) are

  pub walk_absent : Contains (map length lists) 0 → StandForAll facts rule []
  unfolding wide begins
  walk_absent c = frontier_absent facts rule (λ a are. let (b, agb, areb, same) = begins a are in
      none_of_part rule.body start runs owners givens p facts rule.head lists (omega (arith, wide)) count listed c b agb areb)

  module _ (are_groups : AreGroups rule owners (map length lists) groups) where
    chosen_of : (m : Assignment) → Contains (left_of lists owners (map begun groups)) m → IsMatch facts rule.body start m.vals
    chosen_of m c =
        let (numbers, among, e) = contains_mapped (together lists owners) (choices (map begun groups)) m c in
        let (counts, of_groups, w) = begun_from groups numbers among in
        subst (λ (n : Assignment). IsMatch facts rule.body start n.vals) e
        (together_match rule.body start runs owners givens p facts rule.head lists (omega (arith, wide)) count listed numbers (chosen_below lists counts numbers (are_groups.each counts of_groups) w))

    -- an assignment under which the atoms of a group are facts, with the same values of the body's variables
    abbrev Serves : List Ground → (ℕ → Val) → ℕ → (ℕ → Val) → Type 0
    Serves now a k b =
        AreFacts Const (GroundsOf now) b rule.head
        × ((x : ℕ) → OccursIn rule.head x → x < bound rule.body → slice_index_or (slice_index_or groups k []) (slice_index_or owners x 0) 0 ≡ slice_index_or (map length lists) (slice_index_or owners x 0) 0 → b x ≡ a x)

    serves : (now : List Ground) → ((m : Assignment) → Contains (left_of lists owners (map begun groups)) m → IsMet now rule m.vals) →
        (a : ℕ → Val) → AreFacts Const (GroundsOf facts) a rule.body → (k : ℕ) → k < length groups → (b : ℕ → Val) × Serves now a k b
    serves now met a are k l =
        let counts = slice_index_or groups k [] in
        let among : Contains groups counts = (k, l, default groups k counts [] l) in
        let (c, agc, arec, same) = begins a are in
        let (numbers, w, like) = like_turned rule.body start runs owners givens p facts rule.head lists (omega (arith, wide)) count listed counts c (are_groups.each counts among) agc arec in
        let (b, ext) = met (together lists owners numbers) (contains_map (together lists owners) (choices (map begun groups)) numbers (begun_has groups counts numbers among w)) in
        (b, (ext.head, λ x o low turned. ext.agrees x (numbered.body x low) ∙ sym (like x o (omega (arith, wide, low)) turned) ∙ sym (same x o (omega (arith, body_fits rule fixed g, low)))))

    stands : (now : List Ground) (a : ℕ → Val) → (f : ℕ → ℕ → Val) × ((k : ℕ) → k < length groups → Serves now a k (f k)) →
        (b : ℕ → Val) × Extends Const (GroundsOf now) rule a b
    stands now a (f, has) = (
      b,
      record {
        agrees = λ x o. low x (occurs_below rule.body x o);
        head = λ atom c. by atom c (are_groups.served atom c);
      },
    )
      where
        b : ℕ → Val
        b = joined (bound rule.body) a (λ i. f (are_groups.of (bound rule.body + i)) (bound rule.body + i))

        low : (x : ℕ) → x < bound rule.body → b x ≡ a x
        low x l = joined_below (bound rule.body) a (λ i. f (are_groups.of (bound rule.body + i)) (bound rule.body + i)) x l

        high : (x : ℕ) → bound rule.body ≤ x → b x ≡ f (are_groups.of x) x
        high x l =
            let e : bound rule.body + (x - bound rule.body) ≡ x = omega arith in
            subst (λ y. b y ≡ f (are_groups.of y) y) e (joined_above (bound rule.body) a (λ i. f (are_groups.of (bound rule.body + i)) (bound rule.body + i)) (x - bound rule.body))

        by : (atom : Atom) → Contains rule.head atom →
            (k : ℕ) × (k < length groups) × AreTurned owners (map length lists) (atom ∷ []) (slice_index_or groups k []) × ((x : ℕ) → Contains atom.terms (Var x) → bound rule.body ≤ x → are_groups.of x ≡ k) →
            GroundsOf now atom.rel (map (value_of Const b) atom.terms)
        by atom c (k, l, turned, same) =
            same_facts now (f k) b (atom ∷ []) value (only now (f k) rule.head atom c (has k l).0) atom (contains_here atom [])
          where
            value : (x : ℕ) → OccursIn (atom ∷ []) x → f k x ≡ b x
            value x o = ⊎_elim
                (λ less. (has k l).1 x (atom, c, in_one atom x o) less (turned x o (omega (arith, p.width, wide, less))) ∙ sym (low x less))
                (λ more. sym (high x more ∙ ap (λ j. f j x) (same x (in_one atom x o) more)))
                (cases_lt x (bound rule.body))

    pub walk_stands : StandForAll facts rule (left_of lists owners (map begun groups))
    unfolding wide begins chosen_of serves stands
    walk_stands = record {
      width = λ m c. (chosen_of m c).width ∙ wide;
      each = λ m c. (chosen_of m c).facts_are;
      all = λ now met a are. stands now a (total (length groups) a (Serves now a) (serves now met a are));
    }

-- ---- the matches that are left

pub left_next : (lists : List (List Assignment)) (owners : List ℕ) (rest : List Turning) (one later : Turning) → IsLater one (Some later) →
    left_of lists owners (rest ++ one ∷ []) ≡ together lists owners one.numbers ∷ left_of lists owners (rest ++ later ∷ [])
left_next lists owners rest one later (w, e) =
    ap (map (together lists owners)) (choices_append rest one ∙ ap (λ z. z ++ choices rest) e)
    ∙ sym (ap (λ z. together lists owners one.numbers ∷ map (together lists owners) z) (choices_append rest later))

pub left_last : (lists : List (List Assignment)) (owners : List ℕ) (rest : List Turning) (one : Turning) → IsLater one None →
    left_of lists owners (rest ++ one ∷ []) ≡ together lists owners one.numbers ∷ left_of lists owners rest
left_last lists owners rest one e = ap (map (together lists owners)) (choices_append rest one ∙ ap (λ z. z ++ choices rest) e)

pub left_some : (lists : List (List Assignment)) (owners : List ℕ) (turnings : List Turning) → 0 < length turnings →
    ((one : Turning) → Contains turnings one → AreWithin one.counts one.numbers) → 0 < length (left_of lists owners turnings)
left_some lists owners [] l w = absurd (omega arith)
left_some lists owners (one ∷ turnings) l w =
    let (more, e) = turns_first one.counts one.numbers (w one (contains_here one turnings)) in
    let size = length-map (choices turnings ++ turns one.counts one.numbers) (together lists owners) in
    let split = length-append (choices turnings) (turns one.counts one.numbers) in
    let first : length (turns one.counts one.numbers) ≡ suc (length more) = ap length e in
    omega (arith, size, split, first)

pub begun_within : (groups : List (List ℕ)) → ((counts : List ℕ) (i : ℕ) → Contains groups counts → i < length counts → 0 < slice_index_or counts i 0) →
    (one : Turning) → Contains (map begun groups) one → AreWithin one.counts one.numbers
begun_within groups positive one c =
    let (counts, among, e) = contains_mapped begun groups one c in
    subst (λ (t : Turning). AreWithin t.counts t.numbers) e (first_within counts (λ i l. positive counts i among l))

-- ---- the match of a part

pub picked_none : (lists : List (List Assignment)) (numbers : List ℕ) (part : ℕ) (list : List Assignment) →
    slice_get lists part ≡ Some list → slice_get list (slice_index_or numbers part 0) ≡ None →
    (picked_of lists numbers part).vals ≡ []
picked_none lists numbers part list e none =
    ap (λ (m : Assignment). m.vals) (ap (λ (z : List Assignment). slice_index_or z (slice_index_or numbers part 0) (record { vals = [] })) (get_or_from_slice_get lists part list [] e) ∙ absent list (slice_index_or numbers part 0) none)
  where
    absent : (list : List Assignment) (n : ℕ) → slice_get list n ≡ None →
        slice_index_or list n (record { vals = [] }) ≡ record { vals = [] }
    absent [] n e = refl
    absent (m ∷ list) zero e = absurd cc
    absent (m ∷ list) (suc n) e = absent list n e

pub picked_past : (lists : List (List Assignment)) (numbers : List ℕ) (part : ℕ) → length lists ≤ part →
    (picked_of lists numbers part).vals ≡ []
picked_past [] numbers part l = refl
picked_past (list ∷ lists) numbers zero l = absurd (omega arith)
picked_past (list ∷ lists) [] (suc part) l = behind lists part (omega arith)
  where
    behind : (lists : List (List Assignment)) (part : ℕ) → length lists ≤ part →
        (slice_index_or (slice_index_or lists part []) 0 (record { vals = [] })).vals ≡ []
    behind [] part l = refl
    behind (list ∷ lists) zero l = absurd (omega arith)
    behind (list ∷ lists) (suc part) l = behind lists part (omega arith)
picked_past (list ∷ lists) (n ∷ numbers) (suc part) l = picked_past lists numbers part (omega arith)

pub picked_some : (lists : List (List Assignment)) (numbers : List ℕ) (part : ℕ) (list : List Assignment) (one : Assignment) → slice_get lists part ≡ Some list → slice_get list (slice_index_or numbers part 0) ≡ Some one → one ≡ picked_of lists numbers part
picked_some lists numbers part list one e some =
    sym (ap (λ (z : List Assignment). slice_index_or z (slice_index_or numbers part 0) (record { vals = [] })) (get_or_from_slice_get lists part list [] e) ∙ get_or_from_slice_get list (slice_index_or numbers part 0) one (record { vals = [] }) some)

pub at_none : (values : List Val) (x : ℕ) → slice_get values x ≡ None → Label 0 ≡ at values x
at_none [] x e = refl
at_none (v ∷ values) zero e = absurd cc
at_none (v ∷ values) (suc x) e = at_none values x e
