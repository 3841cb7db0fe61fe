-- Facts that an atom can be under given values, by a key.
use Rattle.std.proofs.Common.{◌≡◌, ℕ, zero, suc, ◌+◌, ◌<◌, List, [], ◌∷◌, ◌++◌, length, Option, Some, Bool, true, false, refl, sym, ap, ◌∙◌, subst, cond, arith, Contains, slice_get, slice_index_or, map, append_assoc}
use Rattle.std.specs.Prelude.{if◌then◌else◌}
use Rattle.std.specs.List.{filter}
use Rattle.std.proofs.lemmas.Option.{slice_get-get_or}
use Rattle.lists.proofs.Members.{contains_here, contains_there, map_got, contains_filter}
use Rattle.meaning.specs.declared.types.Term.{Term}
use Rattle.meaning.specs.declared.types.Val.{Val}
use Rattle.meaning.specs.declared.types.Val.TheVariants.{Const}
use Rattle.meaning.specs.declared.types.Atom.{Atom}
use Rattle.meaning.specs.declared.types.Ground.{Ground}
use Rattle.meaning.specs.Matching.{value_of}
use Rattle.meaning.specs.Triggers.{ground}
use Rattle.meaning.specs.Search.{AreDistinct}
use Rattle.homomorphism.specs.declared.key.Key.{Key}
use Rattle.homomorphism.specs.declared.key.Key.TheVariants.{Relation, Value}
use Rattle.homomorphism.specs.declared.positions.Positions.{Positions}
use Rattle.homomorphism.specs.declared.fact_index.FactIndex.{FactIndex}
use Rattle.homomorphism.specs.Bindings.{Agrees}
use Rattle.homomorphism.specs.Ways.{AreWays}
use Rattle.homomorphism.specs.declared.key_lists.KeyLists.{KeyLists}
use Rattle.homomorphism.specs.Listed.{has_position, is_found_by, value_keys, has_key, numbers_from, listed, IsIndexOf, AreCandidates}
use Rattle.homomorphism.proofs.Members.{in_filter, distinct_filter}
use Rattle.homomorphism.proofs.Indexing.{has_key_decides, of_values, numbers_below}

-- the list is that of some key that facts are found by, which the atom has under each assignment that agrees
abbrev pub IsFound : Positions → KeyLists → Atom → List (Option Val) → List ℕ → Type 0
IsFound positions numbers atom given best = (key : Key) × (is_found_by positions key ≡ true) × (best ≡ listed numbers key) × ((a : ℕ → Val) → Agrees given a → has_key key (ground a atom) ≡ true)

module _ (positions : Positions) (numbers : KeyLists) (atom : Atom) (given : List (Option Val)) where
  pub found_relation : (best : List ℕ) → best ≡ listed numbers (Relation atom.rel) → IsFound positions numbers atom given best
  found_relation best e = (
    Relation atom.rel,
    refl,
    e,
    λ a ag. (has_key_decides (Relation atom.rel) (ground a atom)).1 (contains_here (Relation atom.rel) (value_keys atom.rel 0 (map (value_of Const a) atom.terms))),
  )

  pub found_value : (best : List ℕ) (position : ℕ) (term : Term) (val : Val) → position < length atom.terms → term ≡ slice_index_or atom.terms position term → has_position positions atom.rel position ≡ true →
      ((a : ℕ → Val) → Agrees given a → value_of Const a term ≡ val) → best ≡ listed numbers (Value atom.rel position val) → IsFound positions numbers atom given best
  found_value best position term val l is has known e = (
    Value atom.rel position val,
    has,
    e,
    λ a ag. (has_key_decides (Value atom.rel position val) (ground a atom)).1
        (contains_there (Relation atom.rel) (value_keys atom.rel 0 (map (value_of Const a) atom.terms)) (Value atom.rel position val)
        (of_values atom.rel 0 position position (map (value_of Const a) atom.terms) val (got a ag) (omega arith))),
  )
    where
      got : (a : ℕ → Val) → Agrees given a → slice_get (map (value_of Const a) atom.terms) position ≡ Some val
      got a ag = map_got (value_of Const a) atom.terms position term (slice_get-get_or atom.terms position term l ∙ ap Some (sym is)) ∙ ap Some (known a ag)

  pub found_candidates : (best : List ℕ) (index : FactIndex) → index.positions ≡ positions → index.lists ≡ numbers → IsFound positions numbers atom given best → (facts : List Ground) → IsIndexOf facts index → AreCandidates facts atom given best
  found_candidates best index places same (key, found, e, has) facts r = (key, e ∙ ap (λ n. listed n key) (sym same) ∙ r.lists key (ap (λ p. is_found_by p key) places ∙ found), has)

-- the facts with these numbers
abbrev pub picked : List Ground → List ℕ → List Ground
picked facts numbers = map (λ n. slice_index_or facts n (record { rel = 0; vals = [] })) numbers

pub length_picked : (facts : List Ground) (numbers : List ℕ) → length (picked facts numbers) ≡ length numbers
length_picked facts [] = refl
length_picked facts (n ∷ numbers) = ap suc (length_picked facts numbers)

pub picked_at : (facts : List Ground) (numbers : List ℕ) (i n : ℕ) (fact : Ground) → i < length numbers → n ≡ slice_index_or numbers i 0 → n < length facts → fact ≡ slice_index_or facts n fact →
    fact ≡ slice_index_or (picked facts numbers) i fact
picked_at facts [] i n fact l e below is = absurd (omega arith)
picked_at facts (m ∷ numbers) zero n fact l e below is = is ∙ default facts n fact (record { rel = 0; vals = [] }) below ∙ ap (λ k. slice_index_or facts k (record { rel = 0; vals = [] })) e
  where
    default : (xs : List Ground) (i : ℕ) (d e : Ground) → i < length xs → slice_index_or xs i d ≡ slice_index_or xs i e
    default [] i d e l = absurd (omega arith)
    default (x ∷ xs) zero d e l = refl
    default (x ∷ xs) (suc i) d e l = default xs i d e (omega arith)
picked_at facts (m ∷ numbers) (suc i) n fact l e below is = picked_at facts numbers i n fact (omega arith) e below is

picked_from : (key : Key) (before facts : List Ground) (all : List Ground) (first : ℕ) → all ≡ before ++ facts → first ≡ length before → picked all (numbers_from first key facts) ≡ filter (has_key key) facts
picked_from key before [] all first e f = refl
picked_from key before (fact ∷ facts) all first e f = by (has_key key fact) (picked_from key (before ++ fact ∷ []) facts all (first + 1) (e ∙ sym (append_assoc before (fact ∷ []) facts)) (ap (λ n. n + 1) f ∙ length_push before fact))
  where
    length_push : (xs : List Ground) (x : Ground) → length xs + 1 ≡ length (xs ++ x ∷ [])
    length_push [] x = refl
    length_push (y ∷ xs) x = let h = length_push xs x in omega arith

    here : (xs ys : List Ground) (x d : Ground) → slice_index_or (xs ++ x ∷ ys) (length xs) d ≡ x
    here [] ys x d = refl
    here (y ∷ xs) ys x d = here xs ys x d

    by : (t : Bool) → picked all (numbers_from (first + 1) key facts) ≡ filter (has_key key) facts →
        picked all (if t then first ∷ numbers_from (first + 1) key facts else numbers_from (first + 1) key facts) ≡ cond t (fact ∷ filter (has_key key) facts) (filter (has_key key) facts)
    by true rest =
        let head : slice_index_or all first (record { rel = 0; vals = [] }) ≡ fact = ap (λ xs. slice_index_or xs first (record { rel = 0; vals = [] })) e ∙ ap (λ n. slice_index_or (before ++ fact ∷ facts) n (record { rel = 0; vals = [] })) f ∙ here before facts fact (record { rel = 0; vals = [] }) in
        cc
    by false rest = rest

module _ (facts : List Ground) (atom : Atom) (given : List (Option Val)) (numbers : List ℕ) (r : AreCandidates facts atom given numbers) where
  picked_are : picked facts numbers ≡ filter (has_key r.0) facts
  picked_are = ap (picked facts) r.1 ∙ picked_from r.0 [] facts facts 0 refl refl

  pub candidate_below : (n : ℕ) → Contains numbers n → n < length facts
  candidate_below n c = let l = numbers_below 0 r.0 facts n (subst (λ l. Contains l n) r.1 c) in omega arith

  pub picked_distinct : AreDistinct facts → AreDistinct (picked facts numbers)
  unfolding picked_are
  picked_distinct once = subst AreDistinct (sym picked_are) (distinct_filter (has_key r.0) facts once)

  pub picked_has : (a : ℕ → Val) → Agrees given a → Contains facts (ground a atom) → Contains (picked facts numbers) (ground a atom)
  unfolding picked_are
  picked_has a ag c = subst (λ l. Contains l (ground a atom)) (sym picked_are) (contains_filter (has_key r.0) facts (ground a atom) c (r.2 a ag))

  pub ways_picked : (ways : List (List (Option Val))) → AreWays (picked facts numbers) atom given ways → AreWays facts atom given ways
  unfolding picked_are picked_has
  ways_picked ways w = record {
    width = w.width;
    covers = w.covers;
    wider = w.wider;
    sound = λ way a c ag. in_filter (has_key r.0) facts (ground a atom) (subst (λ l. Contains l (ground a atom)) picked_are (w.sound way a c ag));
    complete = λ a ag c. w.complete a ag (picked_has a ag c);
    apart = w.apart;
  }

pub number_among : (numbers : List ℕ) (i : ℕ) → i < length numbers → Contains numbers (slice_index_or numbers i 0)
number_among [] i l = absurd (omega arith)
number_among (n ∷ numbers) zero l = contains_here n numbers
number_among (n ∷ numbers) (suc i) l = contains_there n numbers (slice_index_or numbers i 0) (number_among numbers i (omega arith))

-- the number at a place of the candidates is that of a fact, which is the one picked there
module _ (facts lent : List Ground) (same : lent ≡ facts) (atom : Atom) (given : List (Option Val)) (numbers : List ℕ) (r : AreCandidates facts atom given numbers) (i : ℕ) (l : i < length numbers) where
  pub place_below : slice_index_or numbers i 0 < length lent
  place_below = subst (λ fs. slice_index_or numbers i 0 < length fs) (sym same) (candidate_below facts atom given numbers r (slice_index_or numbers i 0) (number_among numbers i l))

  pub place_picked : i < length (picked facts numbers)
  place_picked = let e = length_picked facts numbers in omega arith

  pub place_is : (fact : Ground) → fact ≡ slice_index_or lent (slice_index_or numbers i 0) fact → fact ≡ slice_index_or (picked facts numbers) i fact
  unfolding place_below
  place_is fact e = picked_at facts numbers i (slice_index_or numbers i 0) fact l refl (subst (λ fs. slice_index_or numbers i 0 < length fs) same place_below) (e ∙ ap (λ fs. slice_index_or fs (slice_index_or numbers i 0) fact) same)
