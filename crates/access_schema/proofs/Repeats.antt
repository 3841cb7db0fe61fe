-- A list that is gone through with a set of the texts so far: what the set has, and whether a text stands twice.
use Rattle.std.proofs.Common.{◌≡◌, ◌∙◌, sym, ap, ℕ, ◌<◌, suc, zero, List, [], ◌∷◌, ◌++◌, Bool, true, false, not, ◌||◌, Some, Bor, take, refl, arith, ⊎_elim, slice_get, nat_eq}
use Rattle.std.proofs.Common.{Ordering, Less, Equal, Greater, nat_cmp}
use Rattle.std.specs.List.{list_any}
use Rattle.std.specs.BTreeMap.{is_at}
use Rattle.std.specs.BTreeSet.{insert_key}
use Rattle.std.specs.Cmp.Lexicographic.{pointwise, slice_cmp, nat_list_eq_equiv}
use Rattle.std.proofs.lemmas.Bool.{cases_Bool}
use Rattle.std.proofs.lemmas.List.Folds.{list_any-append}
use Rattle.std.proofs.lemmas.Map.Text.{is_eq-slice_cmp}
use Rattle.lists.proofs.Booleans.{or_false, both_false}
use Rattle.lists.proofs.Places.{got_contained}
use Rattle.access_schema.specs.Lists.{is_among, repeats}
use Rattle.access_schema.proofs.Texts.{among_contains, differ_from_repeats}

swapped : (a b c : Bool) → (a || (b || c)) ≡ ((a || b) || c)
swapped true b c = refl
swapped false b c = refl

turned : (a b : Bool) → (a || b) ≡ (b || a)
turned true true = refl
turned true false = refl
turned false true = refl
turned false false = refl

pub not_new : (fresh known : Bool) → fresh ≡ not known → fresh ≡ false → known ≡ true
not_new fresh true is told = refl
not_new fresh false is told = absurd (cc)

pub is_new : (fresh known : Bool) → fresh ≡ not known → fresh ≡ true → known ≡ false
is_new fresh true is told = absurd (cc)
is_new fresh false is told = refl

-- the keys with a new one at its place
any_insert : {K : Type 0} (cmp : K → K → Ordering) (p : K → Bool) (keys : List K) (key : K) → list_any (is_at (cmp key)) keys ≡ false → list_any p (insert_key cmp keys key) ≡ (list_any p keys || p key)
any_insert cmp p [] key free = or_false (p key)
any_insert cmp p (first ∷ keys) key free = at (cmp key first) refl (λ rest. any_insert cmp p keys key rest) where
  at : (order : Ordering) → cmp key first ≡ order → (list_any (is_at (cmp key)) keys ≡ false → list_any p (insert_key cmp keys key) ≡ (list_any p keys || p key)) → list_any p (insert_key cmp (first ∷ keys) key) ≡ (list_any p (first ∷ keys) || p key)
  at Less is later = rw is (turned (p key) (list_any p (first ∷ keys)))
  at Equal is later = let same : true ≡ false = rw is at free in absurd (cc)
  at Greater is later = let rest : list_any (is_at (cmp key)) keys ≡ false = rw is at free in
      rw is (ap (λ (b : Bool). p first || b) (later rest) ∙ swapped (p first) (list_any p keys) (p key))

among_push : (texts : List (List ℕ)) (text other : List ℕ) → is_among (texts ++ text ∷ []) other ≡ (is_among texts other || pointwise nat_eq text other)
among_push texts text other = list_any-append (λ each. pointwise nat_eq each other) texts (text ∷ []) ∙ ap (λ (b : Bool). is_among texts other || b) (or_false (pointwise nat_eq text other))

-- a list without repetition and a new text behind it
pub once_push : (texts : List (List ℕ)) (text : List ℕ) → repeats texts ≡ false → is_among texts text ≡ false → repeats (texts ++ text ∷ []) ≡ false
once_push [] text once new = refl
once_push (first ∷ texts) text once new =
    let (free, rest) = both_false (is_among texts first) (repeats texts) once in
    let (apart, other) = both_false (pointwise nat_eq first text) (is_among texts text) new in
    let turn : pointwise nat_eq text first ≡ false = nat_list_eq_equiv.symm text first ∙ apart in
    let unlike : is_among (texts ++ text ∷ []) first ≡ false = among_push texts text first ∙ (rw (free, turn) refl) in
    rw unlike (once_push texts text rest other)

-- a text that stands before and at a place
pub twice_at : (texts : List (List ℕ)) (i : ℕ) (text : List ℕ) → slice_get texts i ≡ Some text → is_among (take i texts) text ≡ true → repeats texts ≡ true
twice_at texts i text at among = ⊎_elim (λ yes. yes)
    (λ no.
    let before = among_contains (take i texts) text among in
    let (k, lt, got) = earlier texts i before.0 text (got_contained (take i texts) text before) in
    let same = differ_from_repeats texts no k i text got at in
    absurd (omega arith))
    (cases_Bool (repeats texts)) where
      earlier : (texts : List (List ℕ)) (i k : ℕ) (text : List ℕ) → slice_get (take i texts) k ≡ Some text → (j : ℕ) × (j < i) × (slice_get texts j ≡ Some text)
      earlier texts zero k text at = absurd (cc)
      earlier [] (suc i) k text at = absurd (cc)
      earlier (first ∷ texts) (suc i) zero text at = (0, omega arith, at)
      earlier (first ∷ texts) (suc i) (suc k) text at = let (j, lt, got) = earlier texts i k text at in (suc j, omega arith, got)

-- the set of the texts so far, and the next one
pub passed_push : (keys more : List (Bor (List ℕ))) (texts : List (List ℕ)) (key : Bor (List ℕ)) →
    more ≡ insert_key (λ x y. slice_cmp nat_cmp x.now y.now) keys key → list_any (is_at (λ (other : Bor (List ℕ)). slice_cmp nat_cmp key.now other.now)) keys ≡ false →
    ((text : List ℕ) → list_any (is_at (λ (other : Bor (List ℕ)). slice_cmp nat_cmp text other.now)) keys ≡ is_among texts text) →
    (text : List ℕ) → list_any (is_at (λ (other : Bor (List ℕ)). slice_cmp nat_cmp text other.now)) more ≡ is_among (texts ++ key.now ∷ []) text
passed_push keys more texts key is new known text =
    let same : is_at (λ (other : Bor (List ℕ)). slice_cmp nat_cmp text other.now) key ≡ pointwise nat_eq key.now text = is_eq-slice_cmp text key.now ∙ nat_list_eq_equiv.symm text key.now in
    ap (list_any (is_at (λ (other : Bor (List ℕ)). slice_cmp nat_cmp text other.now))) is ∙
    any_insert (λ x y. slice_cmp nat_cmp x.now y.now) (is_at (λ (other : Bor (List ℕ)). slice_cmp nat_cmp text other.now)) keys key new ∙
    (rw (known text, same) (sym (among_push texts key.now text)))
