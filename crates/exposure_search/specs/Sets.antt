-- The base facts that a set marks, and lists with the same facts.
use Rattle.std.proofs.Common.{◌≡◌, ◌⊎◌, ◌<◌, ℕ, zero, suc, List, [], ◌∷◌, ◌++◌, length, Bool, true, false, Some, refl, sym, ap, ◌∙◌, subst, inl, inr, ⊎_elim, arith}
use Rattle.std.specs.Prelude.{Contains, slice_get, slice_set}
use Rattle.std.proofs.lemmas.List.Elements.{Contains-append_left, Contains-push, Contains-push_cases}
use Rattle.std.proofs.lemmas.Option.{slice_get_within}
use Rattle.lists.proofs.Members.{contains_here, contains_there, contains_cases, contains_got, some_injective}
use Rattle.meaning.specs.declared.types.Ground.{Ground}
use Rattle.meaning.specs.Search.{AreDistinct}
use Rattle.least_search.specs.Walks.{no_facts, IsSubset}
use Rattle.exposure_search.specs.Tries.{picked}

-- the same facts
pub record AreSame (first second : List Ground) : Type 0 where
  pub to : (fact : Ground) → Contains first fact → Contains second fact
  pub from : (fact : Ground) → Contains second fact → Contains first fact

pub turned : (first second : List Ground) → AreSame first second → AreSame second first
turned first second same = record { to = same.from; from = same.to }

pub joined_same : (first second third : List Ground) → AreSame first second → AreSame second third → AreSame first third
joined_same first second third one two = record { to = λ f c. two.to f (one.to f c); from = λ f c. one.from f (two.from f c) }

pub got_contained : {X : Type 0} (xs : List X) (x : X) → Contains xs x → (k : ℕ) × (slice_get xs k ≡ Some x)
got_contained [] x c = absurd (omega arith)
got_contained (y ∷ xs) x c = ⊎_elim (λ e. (0, ap (λ z. Some z) e)) (λ h. let (k, at) = got_contained xs x h in (suc k, at)) (contains_cases y xs x c)

-- in a list without doubles an element has one place
pub got_once : {X : Type 0} (xs : List X) (x : X) (j k : ℕ) → AreDistinct xs → slice_get xs j ≡ Some x → slice_get xs k ≡ Some x → j ≡ k
got_once [] x j k once at there = absurd (cc)
got_once (y ∷ xs) x zero zero once at there = refl
got_once (y ∷ xs) x zero (suc k) once at there = absurd (once.0 (subst (λ z. Contains xs z) (sym (some_injective y x at)) (contains_got xs k x there)))
got_once (y ∷ xs) x (suc j) zero once at there = absurd (once.0 (subst (λ z. Contains xs z) (sym (some_injective y x there)) (contains_got xs j x at)))
got_once (y ∷ xs) x (suc j) (suc k) once at there = ap suc (got_once xs x j k once.1 at there)

pub picked_at : (base : List Ground) (set : List Bool) (k : ℕ) (fact : Ground) → slice_get base k ≡ Some fact → slice_get set k ≡ Some true → Contains (picked base set) fact
picked_at [] set k fact e at = absurd (cc)
picked_at (g ∷ base) [] k fact e at = absurd (cc)
picked_at (g ∷ base) (true ∷ set) zero fact e at = subst (λ x. Contains (g ∷ picked base set) x) (some_injective g fact e) (contains_here g (picked base set))
picked_at (g ∷ base) (false ∷ set) zero fact e at = absurd (let h : Some false ≡ Some true = at in cc)
picked_at (g ∷ base) (true ∷ set) (suc k) fact e at = contains_there g (picked base set) fact (picked_at base set k fact e at)
picked_at (g ∷ base) (false ∷ set) (suc k) fact e at = picked_at base set k fact e at

pub picked_back : (base : List Ground) (set : List Bool) (fact : Ground) → Contains (picked base set) fact → (k : ℕ) × (slice_get base k ≡ Some fact) × (slice_get set k ≡ Some true)
picked_back [] set fact c = absurd (omega arith)
picked_back (g ∷ base) [] fact c = absurd (omega arith)
picked_back (g ∷ base) (true ∷ set) fact c = ⊎_elim (λ e. (0, ap (λ z. Some z) e, refl)) (λ h. let (k, e, at) = picked_back base set fact h in (suc k, e, at)) (contains_cases g (picked base set) fact c)
picked_back (g ∷ base) (false ∷ set) fact c = let (k, e, at) = picked_back base set fact c in (suc k, e, at)

-- a mark after a mark was set
pub set_cases : (set : List Bool) (i k : ℕ) → slice_get (slice_set set i true) k ≡ Some true → (k ≡ i) ⊎ (slice_get set k ≡ Some true)
set_cases [] i k e = absurd (cc)
set_cases (b ∷ set) zero zero e = inl refl
set_cases (b ∷ set) zero (suc k) e = inr e
set_cases (b ∷ set) (suc i) zero e = inr e
set_cases (b ∷ set) (suc i) (suc k) e = ⊎_elim (λ h. inl (ap suc h)) (λ h. inr h) (set_cases set i k e)

pub set_here : (set : List Bool) (i : ℕ) → i < length set → slice_get (slice_set set i true) i ≡ Some true
set_here [] i low = absurd (omega arith)
set_here (b ∷ set) zero low = refl
set_here (b ∷ set) (suc i) low = set_here set i (omega arith)

pub set_kept : (set : List Bool) (i k : ℕ) → slice_get set k ≡ Some true → slice_get (slice_set set i true) k ≡ Some true
set_kept [] i k e = e
set_kept (b ∷ set) zero zero e = refl
set_kept (b ∷ set) zero (suc k) e = e
set_kept (b ∷ set) (suc i) zero e = e
set_kept (b ∷ set) (suc i) (suc k) e = set_kept set i k e

-- no fact is picked at the start
pub none_picked : (base : List Ground) → picked base (no_facts (length base)) ≡ []
none_picked [] = refl
none_picked (g ∷ base) = none_picked base

pub none_same : (base : List Ground) → AreSame (picked base (no_facts (length base))) []
none_same base = subst (λ gs. AreSame gs []) (sym (none_picked base)) (record { to = λ f c. c; from = λ f c. c })

pub within_got : (s t : List Bool) (k : ℕ) → IsSubset s t → slice_get s k ≡ Some true → slice_get t k ≡ Some true
within_got [] t k w e = absurd (cc)
within_got (b ∷ s) [] k w e = absurd w
within_got (b ∷ s) (c ∷ t) zero w e = let h : b ≡ true = some_injective b true e in ap (λ z. Some z) (w.0 h)
within_got (b ∷ s) (c ∷ t) (suc k) w e = within_got s t k w.1 e

pub truth : (b : Bool) → (b ≡ true) ⊎ (b ≡ false)
truth true = inl refl
truth false = inr refl

-- one more fact on both sides
pub same_more : (base : List Ground) (set : List Bool) (exposed : List Ground) (k : ℕ) (fact : Ground) → AreSame (picked base set) exposed → slice_get base k ≡ Some fact → slice_get set k ≡ Some false → AreSame (picked base (slice_set set k true)) (exposed ++ fact ∷ [])
same_more base set exposed k fact same at out =
    record {
      to = λ f c. let (j, e, marked) = picked_back base (slice_set set k true) f c in
          ⊎_elim (λ here. let is : fact ≡ f = some_injective fact f (sym at ∙ ap (λ i. slice_get base i) (sym here) ∙ e) in subst (λ g. Contains (exposed ++ fact ∷ []) g) is (Contains-push exposed fact))
          (λ old. Contains-append_left exposed (fact ∷ []) f (same.to f (picked_at base set j f e old))) (set_cases set k j marked);
      from = λ f c. ⊎_elim (λ old. let (j, e, marked) = picked_back base set f (same.from f old) in picked_at base (slice_set set k true) j f e (set_kept set k j marked))
          (λ is. subst (λ g. Contains (picked base (slice_set set k true)) g) is (picked_at base (slice_set set k true) k fact at (set_here set k (slice_get_within set k false out)))) (Contains-push_cases exposed fact f c);
    }
