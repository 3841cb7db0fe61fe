-- Links, from the last atom to the first.
use Rattle.std.proofs.Common.{◌≡◌, ◌⊎◌, ℕ, zero, suc, ◌+◌, ◌<◌, ◌≤◌, List, [], ◌∷◌, ◌++◌, true, length, refl, sym, ap, ◌∙◌, subst, inl, inr, ⊎_elim, arith, append_assoc, append-nil, reverse}
use Rattle.std.specs.Prelude.{Contains, Option, Some, None, slice_get, nat_lt, filter}
use Rattle.std.proofs.lemmas.Bool.{cases_lt, lt-ltb, ltb-true, and_parts, and_from}
use Rattle.std.proofs.lemmas.List.{length-append, reverse-append}
use Rattle.std.proofs.lemmas.Option.{get_or_from_slice_get}
use Rattle.std.proofs.lemmas.List.Elements.{Contains-append_left, Contains-append_cases, Contains-push}
use Rattle.lists.proofs.Members.{contains_here, contains_cases, contains_got, got_push, got_before, some_injective, contains_none, filter_from, contains_filter}
use Rattle.meaning.specs.declared.types.Term.{Term}
use Rattle.meaning.specs.declared.types.Term.TheVariants.{Var}
use Rattle.meaning.specs.declared.types.Atom.{Atom}
use Rattle.meaning.specs.declared.types.Val.{Val}
use Rattle.meaning.specs.Matching.{OccursIn}
use Rattle.meaning.specs.Triggers.{bound, terms_bound}
use Rattle.meaning_laws.proofs.Carrying.{occurs_below}
use Rattle.homomorphism.specs.Bindings.{IsBound}
use Rattle.connected_match.specs.declared.chain.Link.{Link}
use Rattle.connected_match.specs.Chains.{given_at, first_of, is_none, comes_before, row_before, AreFirsts, IsLink, IsCarried, IsChain}
use Rattle.connected_match.proofs.Naming.{Naming, naming}
use Rattle.connected_match.proofs.Bounds.{member_bound}

-- ---- given values

given_or_none : (given : List (Option Val)) (x : ℕ) → IsBound given x ⊎ (is_none (given_at given x) ≡ true)
given_or_none [] x = inr refl
given_or_none (None ∷ given) zero = inr refl
given_or_none (Some v ∷ given) zero = inl (v, refl)
given_or_none (o ∷ given) (suc x) = given_or_none given x

none_given : (given : List (Option Val)) (x : ℕ) → is_none (given_at given x) ≡ true → IsBound given x → ⊥
none_given given x none (v, got) = some_none v (subst (λ o. is_none o ≡ true) (get_or_from_slice_get given x (Some v) None got) none)
  where
    some_none : (v : Val) → is_none (Some v) ≡ true → ⊥
    some_none v e = cc

-- ---- the row before an atom

module _ (given : List (Option Val)) (firsts : List ℕ) (place : ℕ) (next : List ℕ) (terms : List Term) where
  abbrev earlier : List ℕ
  earlier = filter (λ x. nat_lt (first_of firsts x) place) next

  abbrev own : List Term
  own = filter (comes_before firsts place given) terms

  before : Naming earlier own (row_before firsts place given next terms)
  before = naming own earlier

  -- a variable of the row is named earlier, and is one of the next row, or one of the atom's without a given value
  in_row : (x : ℕ) → Contains (row_before firsts place given next terms) x →
      (first_of firsts x < place) × (Contains next x ⊎ ((IsBound given x → ⊥) × Contains terms (Var x)))
  in_row x among = ⊎_elim
      (λ i. let (inside, passes) = filter_from (λ y. nat_lt (first_of firsts y) place) next x i in (ltb-true (first_of firsts x) place passes, inl inside))
      (λ i. let (inside, passes) = filter_from (comes_before firsts place given) terms (Var x) (before.from x i) in
      let (low, none) = and_parts (nat_lt (first_of firsts x) place) (is_none (given_at given x)) passes in
      (ltb-true (first_of firsts x) place low, inr (none_given given x none, inside)))
      (Contains-append_cases earlier before.more x (subst (λ l. Contains l x) before.is among))

  row_next : (x : ℕ) → Contains next x → first_of firsts x < place → Contains (row_before firsts place given next terms) x
  row_next x among low = subst (λ l. Contains l x) (sym before.is)
      (Contains-append_left earlier before.more x (contains_filter (λ y. nat_lt (first_of firsts y) place) next x among (lt-ltb (first_of firsts x) place low)))

  row_own : (x : ℕ) → Contains terms (Var x) → first_of firsts x < place → is_none (given_at given x) ≡ true → Contains (row_before firsts place given next terms) x
  row_own x among low none = before.own x
      (contains_filter (comes_before firsts place given) terms (Var x) among (and_from (nat_lt (first_of firsts x) place) (is_none (given_at given x)) (lt-ltb (first_of firsts x) place low) none))

-- ---- from the last atom to the first

-- the links of the last atoms, where a row of variables comes before them
pub record Chaining (given : List (Option Val)) (firsts : List ℕ) (atoms left : List Atom) (next : List ℕ) (links : List Link) : Type 0 where
  pub rest : List Atom
  pub split : atoms ≡ left ++ rest
  pub chain : IsChain given next rest (reverse links)
  pub early : (x : ℕ) → Contains next x → first_of firsts x < length left
  pub low : (x : ℕ) → Contains next x → x < length given
  pub unknown : (x : ℕ) → Contains next x → IsBound given x → ⊥
  pub named : (x : ℕ) → OccursIn rest x → first_of firsts x < length left → IsBound given x ⊎ Contains next x

pub chaining_all : (given : List (Option Val)) (firsts : List ℕ) (atoms : List Atom) (next : List ℕ) (links : List Link) → Chaining given firsts atoms [] next links → IsChain given [] atoms (reverse links)
chaining_all given firsts atoms [] links r = subst (λ all. IsChain given [] all (reverse links)) (sym r.split) r.chain
chaining_all given firsts atoms (x ∷ next) links r = absurd (let low = r.early x (contains_here x next) in omega (arith, low))

pub atom_few : (atoms left : List Atom) (atom : Atom) (rest : List Atom) → atoms ≡ (left ++ atom ∷ []) ++ rest → terms_bound atom.terms ≤ bound atoms
atom_few atoms left atom rest split = member_bound atoms atom
    (subst (λ l. Contains l atom) (sym split) (Contains-append_left (left ++ atom ∷ []) rest atom (Contains-push left atom)))

module _ (given : List (Option Val)) (firsts : List ℕ) (atoms left : List Atom) (atom : Atom) (next : List ℕ) (links : List Link) (link : Link)
    (few : bound atoms ≤ length given) (are : AreFirsts atoms (length atoms) (length given) firsts) (r : Chaining given firsts atoms (left ++ atom ∷ []) next links) where
  abbrev row : List ℕ
  row = row_before firsts (length left) given next atom.terms

  long : length (left ++ atom ∷ []) ≡ length left + 1
  long = length-append left (atom ∷ [])

  at_left : slice_get atoms (length left) ≡ Some atom
  at_left = ap (λ l. slice_get l (length left)) r.split ∙ got_before (left ++ atom ∷ []) r.rest (length left) (let e = long in omega arith) ∙ got_push left atom

  all_long : length left < length atoms
  all_long = let e = ap length r.split in let f = length-append (left ++ atom ∷ []) r.rest in let g = long in omega arith

  own_low : (x : ℕ) → Contains atom.terms (Var x) → x < length given
  own_low x there = let low = occurs_below atoms x (atom, contains_got atoms (length left) atom at_left, there) in omega (arith, low, few)

  own_first : (x : ℕ) → Contains atom.terms (Var x) → first_of firsts x ≤ length left
  own_first x there = are.first (length left) x atom at_left there

  later_row : (x : ℕ) → OccursIn r.rest x → first_of firsts x < length left → IsBound given x ⊎ Contains row x
  later_row x occurs low = ⊎_elim inl (λ i. inr (row_next given firsts (length left) next atom.terms x i low)) (r.named x occurs (let e = long in omega (arith, low, e)))

  pub chaining_more : IsLink given (row_before firsts (length left) given next atom.terms) atom next link →
      Chaining given firsts atoms left (row_before firsts (length left) given next atom.terms) (links ++ link ∷ [])
  chaining_more is = record {
    rest = atom ∷ r.rest;
    split = r.split ∙ append_assoc left (atom ∷ []) r.rest;
    chain = subst (λ l. IsChain given row (atom ∷ r.rest) l) (sym (reverse-append links (link ∷ []))) (next, is, carried, r.chain);
    early = λ x among. (in_row given firsts (length left) next atom.terms x among).0;
    low = λ x among. ⊎_elim (r.low x) (λ w. own_low x w.1) (in_row given firsts (length left) next atom.terms x among).1;
    unknown = row_unknown;
    named = λ x (other, among, there) low. ⊎_elim
        (λ same. ⊎_elim inl (λ none. inr (row_own given firsts (length left) next atom.terms x (subst (λ (t : Atom). Contains t.terms (Var x)) (sym same) there) low none)) (given_or_none given x))
        (λ i. later_row x (other, i, there) low)
        (contains_cases atom r.rest other among);
  }
    where
      row_unknown : (x : ℕ) → Contains row x → IsBound given x → ⊥
      row_unknown x among = ⊎_elim (r.unknown x) (λ w. w.0) (in_row given firsts (length left) next atom.terms x among).1

      here : (x : ℕ) → Contains next x → (length left ≤ first_of firsts x) → Contains atom.terms (Var x)
      here x among past =
          let early = r.early x among in
          let e : first_of firsts x ≡ length left = (let l = long in omega (arith, early, past, l)) in
          let l = all_long in
          let (one, got, there) = are.named x (r.low x among) (omega (arith, e, l)) in
          let same : one ≡ atom = some_injective one atom (sym got ∙ ap (slice_get atoms) e ∙ at_left) in
          subst (λ (t : Atom). Contains t.terms (Var x)) same there

      carried : IsCarried given row atom next r.rest
      carried = record {
        unknown = row_unknown;
        from_here = λ x among. ⊎_elim (λ low. inl (row_next given firsts (length left) next atom.terms x among low)) (λ past. inr (here x among past)) (cases_lt (first_of firsts x) (length left));
        carried = λ x side occurs. r.named x occurs (⊎_elim
            (λ i. let low = (in_row given firsts (length left) next atom.terms x i).0 in let l = long in omega (arith, low, l))
            (λ i. let low = own_first x i in let l = long in omega (arith, low, l)) side);
      }
