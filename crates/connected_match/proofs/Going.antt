-- The links of atoms can be gone along exactly where the atoms have a match.
use Rattle.std.proofs.Common.{◌≡◌, ◌⊎◌, ℕ, zero, suc, ◌+◌, ◌-◌, ◌<◌, ◌≤◌, List, [], ◌∷◌, ◌++◌, Bool, length, map, refl, sym, ap, ◌∙◌, subst, inl, inr, ⊎_elim, arith}
use Rattle.std.specs.Prelude.{Contains, Option, Some, None, slice_get, slice_index_or, nat_lt, if◌then◌else◌}
use Rattle.std.proofs.lemmas.Bool.{cases_lt, lt-ltb, le-ltb}
use Rattle.std.proofs.lemmas.List.{length-append, length-map}
use Rattle.std.proofs.lemmas.Option.{get_or_from_slice_get}
use Rattle.std.proofs.lemmas.List.Elements.{Contains-append_left, Contains-append_cases}
use Rattle.lists.proofs.Members.{contains_here, contains_there, contains_cases, contains_got, got_before, got_below, got_mapped, map_got, map_same, contains_mapped, some_injective, contains_none}
use Rattle.lists.proofs.Places.{got_after}
use Rattle.meaning.specs.declared.types.Term.{Term}
use Rattle.meaning.specs.declared.types.Term.TheVariants.{Var, Const as Said}
use Rattle.meaning.specs.declared.types.Atom.{Atom}
use Rattle.meaning.specs.declared.types.Val.{Val}
use Rattle.meaning.specs.declared.types.Val.TheVariants.{Const, Label}
use Rattle.meaning.specs.declared.types.Ground.{Ground}
use Rattle.meaning.specs.Matching.{value_of, AreFacts, OccursIn, GroundsOf}
use Rattle.meaning.specs.Triggers.{bound, terms_bound}
use Rattle.homomorphism.specs.Bindings.{Agrees, IsBound}
use Rattle.connected_match.specs.declared.chain.Link.{Link}
use Rattle.connected_match.specs.Chains.{Completes, LinkFits, FitFrom, place_in, local_in, given_at, IsLink, IsCarried, IsChain}
use Rattle.connected_match.proofs.Places.{among_or_not, at_place, place_low, place_before}

-- ---- lists

-- the terms of a link under one assignment have the values of those of its atom under another
values_same : (names : List ℕ) (a b : ℕ → Val) (terms : List Term) → ((x : ℕ) → Contains terms (Var x) → b (place_in names x) ≡ a x) →
    map (value_of Const b) (map (local_in names) terms) ≡ map (value_of Const a) terms
values_same names a b [] same = refl
values_same names a b (Said c ∷ terms) same = ap (λ vals. Const c ∷ vals) (values_same names a b terms (λ x i. same x (contains_there (Said c) terms (Var x) i)))
values_same names a b (Var y ∷ terms) same =
    let first = same y (contains_here (Var y) terms) in
    let rest = values_same names a b terms (λ x i. same x (contains_there (Var y) terms (Var x) i)) in
    ap (λ v. v ∷ map (value_of Const b) (map (local_in names) terms)) first ∙ ap (λ vals. a y ∷ vals) rest

-- the value that is given, or some value
some_value : Option (Option Val) → Val
some_value None = Label 0
some_value (Some None) = Label 0
some_value (Some (Some v)) = v

-- an assignment has the values of a row of variables
abbrev pub HasRow : (ℕ → Val) → List ℕ → List Val → Type 0
HasRow a row vals = (x : ℕ) → Contains row x → slice_get vals (place_in row x) ≡ Some (a x)

-- ---- one link

module _ (given : List (Option Val)) (row : List ℕ) (atom : Atom) (next : List ℕ) (link : Link) (is : IsLink given row atom next link) (unknown : (x : ℕ) → Contains row x → IsBound given x → ⊥)
    (from_here : (x : ℕ) → Contains next x → Contains row x ⊎ Contains atom.terms (Var x)) where
  abbrev names : List ℕ
  names = row ++ is.others

  next_named : (x : ℕ) → Contains next x → Contains (row ++ is.others) x
  next_named x among = ⊎_elim (Contains-append_left row is.others x) (is.own x) (from_here x among)

  -- ---- from values of the link to the atom

  module _ (vals : List Val) (b : ℕ → Val) (wide : length vals ≡ length row) (agrees : Agrees (map Some vals ++ link.values) b) where
    some_wide : length (map Some vals) ≡ length row
    some_wide = length-map vals Some ∙ wide

    of_row : (x : ℕ) → Contains row x → slice_get vals (place_in row x) ≡ Some (b (place_in (row ++ is.others) x))
    of_row x among =
        let low = place_low row x among in
        let (v, got) = got_below vals (place_in row x) (omega (arith, low, wide)) in
        let known : slice_get (map Some vals ++ link.values) (place_in row x) ≡ Some (Some v) =
        got_before (map Some vals) link.values (place_in row x) (let e = some_wide in omega (arith, low, e)) ∙ map_got Some vals (place_in row x) v got in
        got ∙ ap Some (sym (agrees (place_in row x) v known) ∙ ap b (sym (place_before row is.others x among)))

    of_given : (x : ℕ) (v : Val) → Contains (row ++ is.others) x → slice_get given x ≡ Some (Some v) → b (place_in (row ++ is.others) x) ≡ v
    of_given x v among got =
        let at : slice_get (row ++ is.others) (place_in (row ++ is.others) x) ≡ Some x = at_place (row ++ is.others) x among in
        ⊎_elim
        (λ low. absurd (unknown x (contains_got row (place_in (row ++ is.others) x) x (sym (got_before row is.others (place_in (row ++ is.others) x) low) ∙ at)) (v, got)))
        (λ past.
        let j : ℕ = place_in (row ++ is.others) x - length row in
        let e : place_in (row ++ is.others) x ≡ length row + j = omega (arith, past) in
        let other : slice_get is.others j ≡ Some x = sym (got_after row is.others j) ∙ ap (slice_get (row ++ is.others)) (sym e) ∙ at in
        let value : slice_get link.values j ≡ Some (Some v) =
        ap (λ l. slice_get l j) is.values_are ∙ map_got (given_at given) is.others j x other ∙ ap Some (get_or_from_slice_get given x (Some v) None got) in
        let f : length row + j ≡ length (map Some vals) + j = ap (λ n. n + j) (sym some_wide) in
        agrees (place_in (row ++ is.others) x) v (ap (slice_get (map Some vals ++ link.values)) (e ∙ f) ∙ got_after (map Some vals) link.values j ∙ value))
        (cases_lt (place_in (row ++ is.others) x) (length row))

    of_next : (after : List Val) (a : ℕ → Val) (x : ℕ) → after ≡ map b link.kept → HasRow a next after → Contains next x → a x ≡ b (place_in (row ++ is.others) x)
    of_next after a x same has among =
        let at = at_place next x among in
        let got : slice_get after (place_in next x) ≡ Some (b (place_in (row ++ is.others) x)) =
        ap (λ l. slice_get l (place_in next x)) (same ∙ ap (map b) is.kept_are)
        ∙ map_got b (map (place_in (row ++ is.others)) next) (place_in next x) (place_in (row ++ is.others) x) (map_got (place_in (row ++ is.others)) next (place_in next x) x at) in
        some_injective (a x) (b (place_in (row ++ is.others) x)) (sym (has x among) ∙ got)

  -- ---- from a match to values of the link

  module _ (a : ℕ → Val) (agrees : Agrees given a) where
    local : ℕ → Val
    local k = a (slice_index_or (row ++ is.others) k 0)

    local_at : (k x : ℕ) → slice_get (row ++ is.others) k ≡ Some x → local k ≡ a x
    unfolding local
    local_at k x got = ap a (get_or_from_slice_get (row ++ is.others) k x 0 got)

    local_place : (x : ℕ) → Contains (row ++ is.others) x → local (place_in (row ++ is.others) x) ≡ a x
    local_place x among = local_at (place_in (row ++ is.others) x) x (at_place (row ++ is.others) x among)

    local_agrees : Agrees (map Some (map a row) ++ link.values) local
    local_agrees k v got = ⊎_elim
        (λ low.
        let (w, at, e) = got_mapped Some (map a row) k (Some v) (sym (got_before (map Some (map a row)) link.values k (let l = wide in omega (arith, low, l))) ∙ got) in
        let (x, there, f) = got_mapped a row k w at in
        local_at k x (got_before row is.others k low ∙ there) ∙ f ∙ some_injective w v e)
        (λ past.
        let j : ℕ = k - length row in
        let e : k ≡ length row + j = omega (arith, past) in
        let value : slice_get link.values j ≡ Some (Some v) = sym (got_after (map Some (map a row)) link.values j) ∙ ap (slice_get (map Some (map a row) ++ link.values)) (ap (λ n. n + j) wide ∙ sym e) ∙ got in
        let (x, there, f) = got_mapped (given_at given) is.others j (Some v) (sym (ap (λ l. slice_get l j) is.values_are) ∙ value) in
        local_at k x (ap (slice_get (row ++ is.others)) e ∙ got_after row is.others j ∙ there) ∙ agrees x v (given_got given x v f))
        (cases_lt k (length row))
      where
        wide : length (map Some (map a row)) ≡ length row
        wide = length-map (map a row) Some ∙ length-map row a

        given_got : (given : List (Option Val)) (x : ℕ) (v : Val) → given_at given x ≡ Some v → slice_get given x ≡ Some (Some v)
        given_got [] x v e = absurd (cc)
        given_got (o ∷ given) zero v e = ap Some e
        given_got (o ∷ given) (suc x) v e = given_got given x v e

    local_facts : (facts : List Ground) → Contains facts (record { rel = atom.rel; vals = map (value_of Const a) atom.terms }) → AreFacts Const (GroundsOf facts) local link.atoms
    local_facts facts among = subst (AreFacts Const (GroundsOf facts) local) (sym is.atom_is) (λ other i. ⊎_elim
        (λ same. subst (λ (t : Atom). Contains facts (record { rel = t.rel; vals = map (value_of Const local) t.terms })) same
        (subst (λ vals. Contains facts (record { rel = atom.rel; vals = vals })) (sym (values_same (row ++ is.others) a local atom.terms (λ x c. local_place x (is.own x c)))) among))
        (λ none. absurd (contains_none other none))
        (contains_cases (record { rel = atom.rel; terms = map (local_in (row ++ is.others)) atom.terms }) [] other i))

    local_next : map a next ≡ map local link.kept
    local_next = both next next_named ∙ ap (map local) (sym is.kept_are)
      where
        both : (some : List ℕ) → ((x : ℕ) → Contains some x → Contains (row ++ is.others) x) → map a some ≡ map local (map (place_in (row ++ is.others)) some)
        both [] inside = refl
        both (x ∷ some) inside =
            ap (λ v. v ∷ map a some) (sym (local_place x (inside x (contains_here x some))))
            ∙ ap (λ vals. local (place_in (row ++ is.others) x) ∷ vals) (both some (λ y i. inside y (contains_there x some y i)))

  -- ---- the link fits rows of the width of the row

  fits : LinkFits (length row) link
  fits = record {
    few = let e = ap length is.values_are ∙ length-map is.others (given_at given) in let f = length-append row is.others in
        subst (λ atoms. bound atoms ≤ length row + length link.values) (sym is.atom_is) (let low = bounded (length (row ++ is.others)) atom.terms (λ x i. place_low (row ++ is.others) x (is.own x i)) in omega (arith, low, e, f));
    others = λ k low high. (
      record { rel = atom.rel; terms = map (local_in (row ++ is.others)) atom.terms },
      subst (λ atoms. Contains atoms (record { rel = atom.rel; terms = map (local_in (row ++ is.others)) atom.terms })) (sym is.atom_is) (contains_here (record { rel = atom.rel; terms = map (local_in (row ++ is.others)) atom.terms }) []),
      is.others_named k low (let e = ap length is.values_are ∙ length-map is.others (given_at given) in omega (arith, high, e)),
    );
    kept = λ k among.
        let (x, inside, e) = contains_mapped (place_in (row ++ is.others)) next k (subst (λ l. Contains l k) is.kept_are among) in
        let low = place_low (row ++ is.others) x (next_named x inside) in
        let f = ap length is.values_are ∙ length-map is.others (given_at given) in let g = length-append row is.others in
        omega (arith, low, e, f, g);
  }
    where
      bounded : (n : ℕ) (terms : List Term) → ((x : ℕ) → Contains terms (Var x) → place_in (row ++ is.others) x < n) → terms_bound (map (local_in (row ++ is.others)) terms) ≤ n
      bounded n [] below = omega arith
      bounded n (Said c ∷ terms) below = bounded n terms (λ x i. below x (contains_there (Said c) terms (Var x) i))
      bounded n (Var y ∷ terms) below =
          let first = below y (contains_here (Var y) terms) in
          let rest = bounded n terms (λ x i. below x (contains_there (Var y) terms (Var x) i)) in
          omega arith

-- ---- all links

pub chain_fits : (given : List (Option Val)) (atoms : List Atom) (links : List Link) (row : List ℕ) → IsChain given row atoms links → FitFrom (length row) links
chain_fits given [] [] row is = tt
chain_fits given [] (link ∷ links) row is = absurd is
chain_fits given (atom ∷ atoms) [] row is = absurd is
chain_fits given (atom ∷ atoms) (link ∷ links) row (next, is, carried, rest) = (
  fits given row atom next link is carried.unknown carried.from_here,
  subst (λ n. FitFrom n links) (sym (ap length is.kept_are ∙ length-map next (place_in (row ++ is.others)))) (chain_fits given atoms links next rest),
)

pub complete : (facts : List Ground) (given : List (Option Val)) (a : ℕ → Val) (atoms : List Atom) (links : List Link) (row : List ℕ) → IsChain given row atoms links →
    Agrees given a → AreFacts Const (GroundsOf facts) a atoms → Completes facts links (map a row)
complete facts given a [] [] row is agrees are = tt
complete facts given a [] (link ∷ links) row is agrees are = absurd is
complete facts given a (atom ∷ atoms) [] row is agrees are = absurd is
complete facts given a (atom ∷ atoms) (link ∷ links) row (next, is, carried, rest) agrees are = (
  map a next,
  (
    local given row atom next link is carried.unknown carried.from_here a agrees,
    local_agrees given row atom next link is carried.unknown carried.from_here a agrees,
    local_facts given row atom next link is carried.unknown carried.from_here a agrees facts (are atom (contains_here atom atoms)),
    local_next given row atom next link is carried.unknown carried.from_here a agrees,
  ),
  complete facts given a atoms links next rest agrees (λ other i. are other (contains_there atom atoms other i)),
)

-- what follows from the values of one link and an assignment for the atoms behind it
module _ (facts : List Ground) (given : List (Option Val)) (atom : Atom) (atoms : List Atom) (link : Link) (row next : List ℕ) (is : IsLink given row atom next link) (carried : IsCarried given row atom next atoms)
    (vals after : List Val) (wide : length vals ≡ length row) (b : ℕ → Val) (agrees : Agrees (map Some vals ++ link.values) b) (made : AreFacts Const (GroundsOf facts) b link.atoms) (same : after ≡ map b link.kept)
    (rest : ℕ → Val) (rest_agrees : Agrees given rest) (rest_facts : AreFacts Const (GroundsOf facts) rest atoms) (rest_row : HasRow rest next after) where
  both : ℕ → Val
  both x = if nat_lt (place_in (row ++ is.others) x) (length (row ++ is.others)) then b (place_in (row ++ is.others) x) else rest x

  inside : (x : ℕ) → Contains (row ++ is.others) x → both x ≡ b (place_in (row ++ is.others) x)
  unfolding both
  inside x among =
      ap (λ (low : Bool). if low then b (place_in (row ++ is.others) x) else rest x) (lt-ltb (place_in (row ++ is.others) x) (length (row ++ is.others)) (place_low (row ++ is.others) x among))

  outside : (x : ℕ) → place_in (row ++ is.others) x ≡ length (row ++ is.others) → both x ≡ rest x
  unfolding both
  outside x past =
      ap (λ (low : Bool). if low then b (place_in (row ++ is.others) x) else rest x) (le-ltb (place_in (row ++ is.others) x) (length (row ++ is.others)) (omega (arith, past)))

  value_given : (x : ℕ) (v : Val) → Contains (row ++ is.others) x → slice_get given x ≡ Some (Some v) → b (place_in (row ++ is.others) x) ≡ v
  value_given = of_given given row atom next link is carried.unknown carried.from_here vals b wide agrees

  both_agrees : Agrees given both
  both_agrees x v got = ⊎_elim (λ i. inside x i ∙ value_given x v i got) (λ past. outside x past ∙ rest_agrees x v got) (among_or_not (row ++ is.others) x)

  later : (x : ℕ) → OccursIn atoms x → both x ≡ rest x
  later x occurs = ⊎_elim
      (λ i. inside x i ∙ ⊎_elim
      (λ (v, got). value_given x v i got ∙ sym (rest_agrees x v got))
      (λ n. sym (of_next given row atom next link is carried.unknown carried.from_here vals b wide agrees after rest x same rest_row n))
      (carried.carried x (⊎_elim inl (λ o. inr (is.others_own x o)) (Contains-append_cases row is.others x i)) occurs))
      (outside x) (among_or_not (row ++ is.others) x)

  both_facts : AreFacts Const (GroundsOf facts) both (atom ∷ atoms)
  both_facts other among = ⊎_elim
      (λ e. subst (λ (t : Atom). Contains facts (record { rel = t.rel; vals = map (value_of Const both) t.terms })) e
      (subst (λ vals. Contains facts (record { rel = atom.rel; vals = vals })) (values_same (row ++ is.others) both b atom.terms (λ x i. sym (inside x (is.own x i))))
      (made (record { rel = atom.rel; terms = map (local_in (row ++ is.others)) atom.terms })
      (subst (λ l. Contains l (record { rel = atom.rel; terms = map (local_in (row ++ is.others)) atom.terms })) (sym is.atom_is) (contains_here (record { rel = atom.rel; terms = map (local_in (row ++ is.others)) atom.terms }) [])))))
      (λ i. subst (λ vals. Contains facts (record { rel = other.rel; vals = vals }))
      (map_same (value_of Const rest) (value_of Const both) other.terms (λ term c. term_same other i term c)) (rest_facts other i))
      (contains_cases atom atoms other among)
    where
      term_same : (other : Atom) → Contains atoms other → (term : Term) → Contains other.terms term → value_of Const rest term ≡ value_of Const both term
      term_same other i (Said c) there = refl
      term_same other i (Var x) there = sym (later x (other, i, there))

  both_row : HasRow both row vals
  both_row x among = of_row given row atom next link is carried.unknown carried.from_here vals b wide agrees x among ∙ ap Some (sym (inside x (Contains-append_left row is.others x among)))

pub sound : (facts : List Ground) (given : List (Option Val)) (atoms : List Atom) (links : List Link) (row : List ℕ) (vals : List Val) → IsChain given row atoms links → length vals ≡ length row →
    Completes facts links vals → (a : ℕ → Val) × Agrees given a × AreFacts Const (GroundsOf facts) a atoms × HasRow a row vals
unfolding some_value
sound facts given [] [] row vals is wide goes =
    ((λ x. some_value (slice_get given x)), (λ x v got. ap some_value got), (λ atom among. absurd (contains_none atom among)), (λ x among. absurd (contains_none x (subst (λ l. Contains l x) is among))))
sound facts given [] (link ∷ links) row vals is wide goes = absurd is
sound facts given (atom ∷ atoms) [] row vals is wide goes = absurd is
sound facts given (atom ∷ atoms) (link ∷ links) row vals (next, is, carried, chain) wide (after, (b, agrees, made, same), goes) =
    let (rest, rest_agrees, rest_facts, rest_row) = sound facts given atoms links next after chain
    (ap length same ∙ length-map link.kept b ∙ ap length is.kept_are ∙ length-map next (place_in (row ++ is.others))) goes in (
      both facts given atom atoms link row next is carried vals after wide b agrees made same rest rest_agrees rest_facts rest_row,
      both_agrees facts given atom atoms link row next is carried vals after wide b agrees made same rest rest_agrees rest_facts rest_row,
      both_facts facts given atom atoms link row next is carried vals after wide b agrees made same rest rest_agrees rest_facts rest_row,
      both_row facts given atom atoms link row next is carried vals after wide b agrees made same rest rest_agrees rest_facts rest_row,
    )
