-- Runs of numbers, and atoms looked for run by run.
use Rattle.std.proofs.Common.{◌≡◌, ◌⊎◌, ℕ, zero, suc, ◌+◌, ◌<◌, ◌≤◌, List, [], ◌∷◌, ◌++◌, length, Some, None, Option, Bool, true, false, refl, sym, ap, ◌∙◌, subst, inl, inr, ⊎_elim, arith, Contains, slice_get, slice_set, slice_index_or, take, replicate}
use Rattle.std.proofs.lemmas.List.{take_all}
use Rattle.std.proofs.lemmas.List.Elements.{Contains-append_left, Contains-push, Contains-push_cases}
use Rattle.std.proofs.lemmas.Option.{slice_get-get_or}
use Rattle.lists.proofs.Members.{contains_cases, contains_map, contains_mapped, contains_none}
use Rattle.lists.proofs.Places.{take_indexed}
use Rattle.meaning_laws.proofs.Deciding.{same_facts}
use Rattle.meaning.specs.declared.types.Term.TheVariants.{Var}
use Rattle.meaning.specs.declared.types.Val.{Val}
use Rattle.meaning.specs.declared.types.Val.TheVariants.{Const}
use Rattle.meaning.specs.declared.types.Atom.{Atom}
use Rattle.meaning.specs.declared.types.Ground.{Ground}
use Rattle.meaning.specs.Matching.{AreFacts, OccursIn, GroundsOf}
use Rattle.homomorphism.specs.Bindings.{Agrees}
use Rattle.homomorphism.specs.Matches.{NoMatch}
use Rattle.homomorphism.specs.Widening.{Widens, AreUntouched, AreRuns, taken}
use Rattle.homomorphism.proofs.Binding.{got_set_other, same_or_not}
use Rattle.homomorphism.proofs.Extending.{wider}
use Rattle.homomorphism.proofs.Touching.{default}

pub below_or_last : (n count : ℕ) → n < count + 1 → (n < count) ⊎ (n ≡ count)
below_or_last zero zero l = inr refl
below_or_last zero (suc count) l = inl (omega arith)
below_or_last (suc n) zero l = absurd (omega arith)
below_or_last (suc n) (suc count) l = ⊎_elim (λ h. inl (omega arith)) (λ e. inr (ap suc e)) (below_or_last n count (omega arith))

-- all numbers below a count
pub record Counted (count : ℕ) (run : List ℕ) : Type 0 where
  pub each : (n : ℕ) → n < count → Contains run n
  pub within : (n : ℕ) → Contains run n → n < count

pub counted_none : Counted 0 []
counted_none = record { each = λ n l. absurd (omega arith); within = λ n c. absurd (contains_none n c) }

pub counted_more : (count : ℕ) (run : List ℕ) → Counted count run → Counted (count + 1) (run ++ count ∷ [])
counted_more count run r = record {
  each = λ n l. ⊎_elim (λ less. Contains-append_left run (count ∷ []) n (r.each n less)) (λ e. subst (Contains (run ++ count ∷ [])) (sym e) (Contains-push run count)) (below_or_last n count l);
  within = λ n c. ⊎_elim (λ h. let less = r.within n h in omega arith) (λ e. omega arith) (Contains-push_cases run count n c);
}

pub one_run : (count : ℕ) (run : List ℕ) → Counted count run → AreRuns count (run ∷ [])
one_run count run r = record {
  each = λ n l. (run, (0, omega arith, refl), r.each n l);
  within = λ other n c h. ⊎_elim (λ e. r.within n (subst (λ z. Contains z n) (sym e) h)) (λ d. absurd (contains_none other d)) (contains_cases run [] other c);
}

-- numbers that are marked
abbrev pub AreMarked : List ℕ → List Bool → List Bool → Type 0
AreMarked done before now =
    (length now ≡ length before) × ((n : ℕ) → slice_get now n ≡ Some true → (slice_get before n ≡ Some true) ⊎ Contains done n)
    × ((n : ℕ) → Contains done n → n < length before)

pub marked_none : (seen : List Bool) → AreMarked [] seen seen
marked_none seen = (refl, (λ n e. inl e), λ n c. absurd (contains_none n c))

pub marked_more : (run : List ℕ) (i v : ℕ) (before now : List Bool) → i < length run → v ≡ slice_index_or run i v → v < length now → AreMarked (take i run) before now → AreMarked (take (i + 1) run) before (slice_set now v true)
marked_more run i v before now l is within (width, marked, low) = (
  length_set now v true ∙ width,
  (λ n e. ⊎_elim (λ same. inr (subst (λ z. Contains z n) (sym one_more) (subst (Contains (take i run ++ v ∷ [])) (sym same) (Contains-push (take i run) v))))
      (λ differ. ⊎_elim (λ h. inl h) (λ c. inr (subst (λ z. Contains z n) (sym one_more) (Contains-append_left (take i run) (v ∷ []) n c))) (marked n (sym (got_set_other now n v true differ) ∙ e))) (same_or_not n v)),
  λ n c. ⊎_elim (λ h. low n h) (λ e. subst (λ z. z < length before) e (subst (λ z. v < z) width within)) (Contains-push_cases (take i run) v n (subst (λ z. Contains z n) one_more c)),
)
  where
    one_more : take (i + 1) run ≡ take i run ++ v ∷ []
    one_more = take_indexed run i v l is

    length_set : {X : Type 0} (xs : List X) (k : ℕ) (x : X) → length (slice_set xs k x) ≡ length xs
    length_set [] k x = refl
    length_set (y ∷ xs) zero x = refl
    length_set (y ∷ xs) (suc k) x = ap suc (length_set xs k x)

-- runs whose numbers are marked
pub record Marked (count : ℕ) (done : List (List ℕ)) (seen : List Bool) : Type 0 where
  pub width : length seen ≡ count
  pub marked : (n : ℕ) → slice_get seen n ≡ Some true → (run : List ℕ) × Contains done run × Contains run n
  pub within : (run : List ℕ) (n : ℕ) → Contains done run → Contains run n → n < count

pub marked_start : (count : ℕ) (seen : List Bool) → seen ≡ replicate count false → Marked count [] seen
marked_start count seen e = record {
  width = ap length e ∙ wide count;
  marked = λ n h. absurd (unmarked count n (sym (ap (λ z. slice_get z n) e) ∙ h));
  within = λ run n c h. absurd (contains_none run c);
}
  where
    wide : (count : ℕ) → length (replicate count false) ≡ count
    wide zero = refl
    wide (suc count) = ap suc (wide count)

    unmarked : (count n : ℕ) → slice_get (replicate count false) n ≡ Some true → ⊥
    unmarked zero n e = cc
    unmarked (suc count) zero e = cc
    unmarked (suc count) (suc n) e = unmarked count n e

-- one mark more that is seen
pub seen_more : (seen : List Bool) (i : ℕ) (one : Bool) → i < length seen → one ≡ slice_index_or seen i one → one ≡ true → ((n : ℕ) → n < i → slice_get seen n ≡ Some true) → (n : ℕ) → n < i + 1 → slice_get seen n ≡ Some true
seen_more seen i one l is holds before n low = ⊎_elim (λ h. before n h) (λ e. ap (slice_get seen) e ∙ slice_get-get_or seen i one l ∙ ap Some (sym is ∙ holds)) (below_or_last n i low)

pub marked_run : (count : ℕ) (runs : List (List ℕ)) (i : ℕ) (run : List ℕ) (seen next : List Bool) → i < length runs → run ≡ slice_index_or runs i run → Marked count (take i runs) seen →
    length next ≡ length seen → ((n : ℕ) → slice_get next n ≡ Some true → (slice_get seen n ≡ Some true) ⊎ Contains run n) → ((n : ℕ) → Contains run n → n < length seen) → Marked count (take (i + 1) runs) next
marked_run count runs i run seen next l is r width marked low = record {
  width = width ∙ r.width;
  marked = λ n e. ⊎_elim (λ h. let (other, among, c) = r.marked n h in (other, subst (λ z. Contains z other) (sym one_more) (Contains-append_left (take i runs) (run ∷ []) other among), c))
      (λ c. (run, subst (λ z. Contains z run) (sym one_more) (Contains-push (take i runs) run), c)) (marked n e);
  within = λ other n c h. ⊎_elim (λ d. r.within other n d h) (λ e. subst (λ z. n < z) r.width (low n (subst (λ z. Contains z n) (sym e) h))) (Contains-push_cases (take i runs) run other (subst (λ z. Contains z other) one_more c));
}
  where
    one_more : take (i + 1) runs ≡ take i runs ++ run ∷ []
    one_more = take_indexed runs i run l is

pub all_marked : (count : ℕ) (runs : List (List ℕ)) (i : ℕ) (seen : List Bool) → length runs ≤ i → Marked count (take i runs) seen → ((n : ℕ) → n < length seen → slice_get seen n ≡ Some true) → AreRuns count runs
all_marked count runs i seen past r all = record {
  each = λ n l. let (run, among, c) = r.marked n (all n (subst (λ z. n < z) (sym r.width) l)) in (run, subst (λ z. Contains z run) whole among, c);
  within = λ run n c h. r.within run n (subst (λ z. Contains z run) (sym whole) c) h;
}
  where
    whole : take i runs ≡ runs
    whole = take_all i runs past

-- the values that are given, and elsewhere those of an assignment
abbrev pub chosen : Option (Option Val) → Val → Val
chosen None w = w
chosen (Some None) w = w
chosen (Some (Some v)) w = v

pub past : {X : Type 0} (xs ys : List X) (x : ℕ) → length ys ≡ length xs → slice_get xs x ≡ None → slice_get ys x ≡ None
past [] [] x e n = refl
past [] (y ∷ ys) x e n = absurd (omega arith)
past (x ∷ xs) [] k e n = refl
past (x ∷ xs) (y ∷ ys) zero e n = absurd (cc)
past (x ∷ xs) (y ∷ ys) (suc k) e n = past xs ys k (omega arith) n

-- a variable that has still no value keeps that of the assignment
pub stays : (given now : List (Option Val)) → length now ≡ length given → ((x : ℕ) (v : Val) → slice_get given x ≡ Some (Some v) → slice_get now x ≡ Some (Some v)) → (a : ℕ → Val) → Agrees given a → (x : ℕ) →
    (slice_get given x ≡ Some None → slice_get now x ≡ Some None) → a x ≡ chosen (slice_get now x) (a x)
stays given now width kept a ag x free = by (slice_get given x) refl
  where
    by : (o : Option (Option Val)) → slice_get given x ≡ o → a x ≡ chosen (slice_get now x) (a x)
    by None e = sym (ap (λ o. chosen o (a x)) (past given now x width e))
    by (Some None) e = sym (ap (λ o. chosen o (a x)) (free e))
    by (Some (Some v)) e = ag x v e ∙ sym (ap (λ o. chosen o (a x)) (kept x v e))

-- atoms whose free variables have still no value have no facts under fewer values either
pub none_before : (facts : List Ground) (atoms : List Atom) (given now : List (Option Val)) → length now ≡ length given →
    ((x : ℕ) (v : Val) → slice_get given x ≡ Some (Some v) → slice_get now x ≡ Some (Some v)) → AreUntouched atoms given now → NoMatch facts atoms now → NoMatch facts atoms given
none_before facts atoms given now width kept free none a ag are =
    none (λ x. chosen (slice_get now x) (a x)) (λ x v e. ap (λ o. chosen o (a x)) e)
    (same_facts facts a (λ x. chosen (slice_get now x) (a x)) atoms (λ x occurs. stays given now width kept a ag x (free x occurs)) are)

-- one atom more whose free variables have still no value
-- what holds of the variables of the atoms of a run holds with one atom more
pub occurs_more : (P : ℕ → Type 0) (atoms : List Atom) (run : List ℕ) (i n : ℕ) (atom : Atom) → i < length run →
    n ≡ slice_index_or run i n → n < length atoms → atom ≡ slice_index_or atoms n atom →
    ((x : ℕ) → OccursIn (taken atoms (take i run)) x → P x) → ((x : ℕ) → Contains atom.terms (Var x) → P x) →
    (x : ℕ) → OccursIn (taken atoms (take (i + 1) run)) x → P x
occurs_more P atoms run i n atom l is low here before one x (other, c, o) =
    let (k, among, same) = contains_mapped (λ m. slice_index_or atoms m (record { rel = 0; terms = [] })) (take (i + 1) run) other c in
    ⊎_elim (λ h. before x (other, subst (Contains (taken atoms (take i run))) same (contains_map (λ m. slice_index_or atoms m (record { rel = 0; terms = [] })) (take i run) k h), o))
    (λ last. one x (subst (λ (t : Atom). Contains t.terms (Var x)) (sym same ∙ ap (λ m. slice_index_or atoms m (record { rel = 0; terms = [] })) (sym last) ∙ default atoms n (record { rel = 0; terms = [] }) atom low ∙ sym here) o))
    (Contains-push_cases (take i run) n k (subst (λ z. Contains z k) one_more among))
  where
    one_more : take (i + 1) run ≡ take i run ++ n ∷ []
    one_more = take_indexed run i n l is

pub untouched_more : (atoms : List Atom) (run : List ℕ) (i n : ℕ) (atom : Atom) (given now : List (Option Val)) → i < length run → n ≡ slice_index_or run i n → n < length atoms → atom ≡ slice_index_or atoms n atom →
    AreUntouched (taken atoms (take i run)) given now → ((x : ℕ) → Contains atom.terms (Var x) → slice_get given x ≡ Some None → slice_get now x ≡ Some None) → AreUntouched (taken atoms (take (i + 1) run)) given now
untouched_more atoms run i n atom given now l is low here before one =
    occurs_more (λ x. slice_get given x ≡ Some None → slice_get now x ≡ Some None) atoms run i n atom l is low here before one

-- the runs that were gone through
pub record Searched (facts : List Ground) (atoms : List Atom) (done : List (List ℕ)) (given now : List (Option Val)) : Type 0 where
  pub width : length now ≡ length given
  pub kept : (x : ℕ) (v : Val) → slice_get given x ≡ Some (Some v) → slice_get now x ≡ Some (Some v)
  pub sound : (a : ℕ → Val) → Agrees now a → (run : List ℕ) → Contains done run → AreFacts Const (GroundsOf facts) a (taken atoms run)

pub searched_none : (facts : List Ground) (atoms : List Atom) (given now : List (Option Val)) → now ≡ given → Searched facts atoms [] given now
searched_none facts atoms given now e = record {
  width = ap length e;
  kept = λ x v got. ap (λ z. slice_get z x) e ∙ got;
  sound = λ a ag run c. absurd (contains_none run c);
}

pub searched_more : (facts : List Ground) (atoms : List Atom) (runs : List (List ℕ)) (i : ℕ) (run : List ℕ) (given now next : List (Option Val)) → i < length runs → run ≡ slice_index_or runs i run →
    Searched facts atoms (take i runs) given now → Widens facts (taken atoms run) now next → Searched facts atoms (take (i + 1) runs) given next
searched_more facts atoms runs i run given now next l is r w = record {
  width = w.width ∙ r.width;
  kept = λ x v e. w.kept x v (r.kept x v e);
  sound = λ a ag other c. ⊎_elim (λ h. r.sound a (wider now next w.kept a ag) other h) (λ e. subst (λ z. AreFacts Const (GroundsOf facts) a (taken atoms z)) e (w.sound a ag)) (Contains-push_cases (take i runs) run other (subst (λ z. Contains z other) one_more c));
}
  where
    one_more : take (i + 1) runs ≡ take i runs ++ run ∷ []
    one_more = take_indexed runs i run l is

-- an atom by its number
number_of : (atoms : List Atom) (run : List ℕ) (n : ℕ) (atom : Atom) → (l : n < length atoms) → slice_index_or atoms n atom ≡ atom → Contains run n → Contains (taken atoms run) atom
number_of atoms run n atom l e c = subst (Contains (taken atoms run)) (default atoms n (record { rel = 0; terms = [] }) atom l ∙ e) (contains_map (λ k. slice_index_or atoms k (record { rel = 0; terms = [] })) run n c)

pub searched_all : (facts : List Ground) (atoms : List Atom) (runs : List (List ℕ)) (i : ℕ) (given now : List (Option Val)) → length runs ≤ i → AreRuns (length atoms) runs → Searched facts atoms (take i runs) given now → Widens facts atoms given now
searched_all facts atoms runs i given now past r s = record {
  width = s.width;
  kept = s.kept;
  sound = λ a ag atom (n, l, e). let (run, among, c) = r.each n l in
      s.sound a ag run (subst (λ z. Contains z run) (sym (take_all i runs past)) among) atom (number_of atoms run n atom l e c);
}

-- atoms that cannot be facts are part of what cannot be
pub none_of_taken : (facts : List Ground) (atoms : List Atom) (run : List ℕ) (given : List (Option Val)) → ((n : ℕ) → Contains run n → n < length atoms) → NoMatch facts (taken atoms run) given → NoMatch facts atoms given
none_of_taken facts atoms run given within none a ag are = none a ag (λ atom c.
    let (n, among, e) = contains_mapped (λ k. slice_index_or atoms k (record { rel = 0; terms = [] })) run atom c in
    are atom (n, within n among, sym (default atoms n (record { rel = 0; terms = [] }) atom (within n among)) ∙ e))

pub whole_is : (facts : List Ground) (atoms : List Atom) (run : List ℕ) (given now : List (Option Val)) → AreRuns (length atoms) (run ∷ []) → Widens facts (taken atoms run) given now → Widens facts atoms given now
whole_is facts atoms run given now r w = record {
  width = w.width;
  kept = w.kept;
  sound = λ a ag atom (n, l, e). let (other, among, c) = r.each n l in
      w.sound a ag atom (number_of atoms run n atom l e (⊎_elim (λ same. subst (λ z. Contains z n) (sym same) c) (λ h. absurd (contains_none other h)) (contains_cases run [] other among)));
}
