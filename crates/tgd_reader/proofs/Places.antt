-- The inputs of a method are the places of their names.
use Rattle.std.proofs.Common.{◌≡◌, ℕ, zero, suc, ◌+◌, ◌<◌, ◌≤◌, Bool, true, false, List, [], ◌∷◌, length, slice_get, get_or, Some, refl, sym, ap, subst, ◌∙◌, arith, ⊎_elim}
use Rattle.std.specs.Prelude.{Contains, map, slice_index_or}
use Rattle.lists.proofs.Members.{contains_here, contains_there, contains_cases, contains_map, contains_mapped, got_below, some_injective}
use Rattle.access_schema.specs.Names.{AllDiffer}
use Rattle.access_schema.specs.Lists.{is_among}
use Rattle.access_schema.specs.Content.{places_from}
use Rattle.access_schema.proofs.Texts.{among_contains, contains_among}

-- the numbers rise, from a number on
abbrev pub RisingFrom : ℕ → List ℕ → Type 0
RisingFrom k [] = Unit {0}
RisingFrom k (i ∷ is) = (k ≤ i) × RisingFrom (i + 1) is

pub rising_above : (k : ℕ) (is : List ℕ) → RisingFrom k is → (p : ℕ) → Contains is p → k ≤ p
rising_above k [] rising p there = absurd (omega arith)
rising_above k (i ∷ is) rising p there =
    let a = rising.0 in
    ⊎_elim (λ same. omega (arith, a, same)) (λ later. let b = rising_above (i + 1) is rising.1 p later in omega (arith, a, b)) (contains_cases i is p there)

rising_on : (k i : ℕ) (is : List ℕ) → RisingFrom k (i ∷ is) → (k ≡ i → ⊥) → RisingFrom (k + 1) (i ∷ is)
rising_on k i is rising apart = let a = rising.0 in (omega (arith, a, apart), rising.1)

pub rising_of : (is : List ℕ) → ((i p q : ℕ) → slice_get is i ≡ Some p → slice_get is (i + 1) ≡ Some q → p < q) → (k : ℕ) → ((p : ℕ) → slice_get is 0 ≡ Some p → k ≤ p) → RisingFrom k is
rising_of [] rise k first = tt
rising_of (i ∷ is) rise k first = (
  first i refl,
  rising_of is
      (λ j p q at_p at_q. let e : suc (j + 1) ≡ suc j + 1 = omega arith in
      let next : slice_get (i ∷ is) (suc (j + 1)) ≡ Some q = at_q in
      rise (suc j) p q at_p (subst (λ n. slice_get (i ∷ is) n ≡ Some q) e next)) (i + 1)
      (λ p at. let lt = rise 0 i p refl at in omega (arith, lt)),
)

-- what the columns from a place on have to do with the names
abbrev Picks : List (List ℕ) → ℕ → List (List ℕ) → List ℕ → Type 0
Picks names k cs is = (j : ℕ) (c : List ℕ) → slice_get cs j ≡ Some c → (is_among names c ≡ true → Contains is (k + j)) × (Contains is (k + j) → is_among names c ≡ true)

picks_on : (names : List (List ℕ)) (k : ℕ) (c : List ℕ) (cs : List (List ℕ)) (is : List ℕ) → Picks names k (c ∷ cs) is → Picks names (k + 1) cs is
picks_on names k c cs is picks j d at =
    let e : k + suc j ≡ k + 1 + j = omega arith in
    subst (λ n. (is_among names d ≡ true → Contains is n) × (Contains is n → is_among names d ≡ true)) e (picks (suc j) d at)

picks_behind : (names : List (List ℕ)) (k i : ℕ) (cs : List (List ℕ)) (is : List ℕ) → i < k → Picks names k cs (i ∷ is) → Picks names k cs is
picks_behind names k i cs is lt picks j d at = (
  λ among. ⊎_elim (λ same. absurd (omega (arith, lt, same))) (λ later. later) (contains_cases i is (k + j) ((picks j d at).0 among)),
  λ there. (picks j d at).1 (contains_there i is (k + j) there),
)

places_step : (names : List (List ℕ)) (k : ℕ) (c : List ℕ) (cs : List (List ℕ)) (is : List ℕ) → RisingFrom k is → ((p : ℕ) → Contains is p → p < k + length (c ∷ cs)) → Picks names k (c ∷ cs) is →
    ((js : List ℕ) → RisingFrom (k + 1) js → ((p : ℕ) → Contains js p → p < k + 1 + length cs) → Picks names (k + 1) cs js → places_from (k + 1) names cs ≡ js) →
    (t : Bool) → is_among names c ≡ t → places_from k names (c ∷ cs) ≡ is
places_step names k c cs [] rising below picks go true is =
    let e : k + 0 ≡ k = omega arith in
    absurd (let there : Contains [] (k + 0) = (picks 0 c refl).0 is in omega arith)
places_step names k c cs (i ∷ rest) rising below picks go true is =
    let a = rising.0 in
    let first : i ≡ k = ⊎_elim (λ same. omega (arith, same)) (λ later. let b = rising_above (i + 1) rest rising.1 (k + 0) later in omega (arith, a, b)) (contains_cases i rest (k + 0) ((picks 0 c refl).0 is)) in
    let up : RisingFrom (k + 1) rest = subst (λ n. RisingFrom (n + 1) rest) first rising.1 in
    let more : places_from (k + 1) names cs ≡ rest = go rest up (λ p there. let lt = below p (contains_there i rest p there) in omega (arith, lt)) (picks_behind names (k + 1) i cs rest (omega (arith, first)) (picks_on names k c cs (i ∷ rest) picks)) in
    rw is (ap (λ ns. k ∷ ns) more ∙ ap (λ n. n ∷ rest) (sym first))
places_step names k c cs [] rising below picks go false is = rw is (go [] tt (λ p there. absurd (omega arith)) (picks_on names k c cs [] picks))
places_step names k c cs (i ∷ rest) rising below picks go false is =
    let apart : k ≡ i → ⊥ = λ same. let e : i ≡ k + 0 = omega (arith, same) in
    let yes : is_among names c ≡ true = (picks 0 c refl).1 (subst (λ n. Contains (i ∷ rest) n) e (contains_here i rest)) in cc in
    rw is (go (i ∷ rest) (rising_on k i rest rising apart) (λ p there. let lt = below p there in omega (arith, lt)) (picks_on names k c cs (i ∷ rest) picks))

places_exactly : (names : List (List ℕ)) (cs : List (List ℕ)) (k : ℕ) (is : List ℕ) → RisingFrom k is → ((p : ℕ) → Contains is p → p < k + length cs) → Picks names k cs is → places_from k names cs ≡ is
places_exactly names [] k [] rising below picks = refl
places_exactly names [] k (i ∷ is) rising below picks = let a = rising.0 in let b = below i (contains_here i is) in absurd (omega (arith, a, b))
places_exactly names (c ∷ cs) k is rising below picks = places_step names k c cs is rising below picks (λ js up within chosen. places_exactly names cs (k + 1) js up within chosen) (is_among names c) refl

pub got_read : {X : Type 0} (xs : List X) (k : ℕ) (x d : X) → slice_get xs k ≡ Some x → get_or xs k d ≡ x
got_read [] k x d at = absurd cc
got_read (y ∷ xs) zero x d at = some_injective y x at
got_read (y ∷ xs) (suc k) x d at = got_read xs k x d at

-- rising places within distinct columns are the places of their names
pub places_again : (columns : List (List ℕ)) (inputs : List ℕ) → AllDiffer columns → RisingFrom 0 inputs → ((p : ℕ) → Contains inputs p → p < length columns) →
    places_from 0 (map (λ place. slice_index_or columns place []) inputs) columns ≡ inputs
places_again columns inputs differ rising below =
    let name : ℕ → List ℕ = λ place. slice_index_or columns place [] in
    places_exactly (map name inputs) columns 0 inputs rising (λ p there. let lt = below p there in omega (arith, lt)) (λ j c at. (
      λ among.
          let (place, there, is) = contains_mapped name inputs c (among_contains (map name inputs) c among) in
          let (found, at_found) = got_below columns place (below place there) in
          let same : found ≡ c = sym (got_read columns place found [] at_found) ∙ is in
          let e : place ≡ j = differ place j c (at_found ∙ ap Some same) at in
          let f : place ≡ 0 + j = omega (arith, e) in
          subst (λ n. Contains inputs n) f there,
      λ there.
          let e : 0 + j ≡ j = omega arith in
          let named : name j ≡ c = got_read columns j c [] at in
          contains_among (map name inputs) c (subst (λ (n : List ℕ). Contains (map name inputs) n) named (contains_map name inputs j (subst (λ n. Contains inputs n) e there))),
    ))
