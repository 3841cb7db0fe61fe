-- Links of atoms, and going along them.
use Rattle.std.specs.Prelude.{◌≡◌, ◌⊎◌, ℕ, ◌<◌, ◌≤◌, ◌+◌, ◌++◌, List, [], ◌∷◌, Contains, length, map, fold, filter, Option, Some, None, slice_get, slice_index_or, Bool, true, false, nat_eq, nat_lt, ◌&&◌, if◌then◌else◌}
use Rattle.meaning.specs.declared.types.Term.{Term}
use Rattle.meaning.specs.declared.types.Term.TheVariants.{Var, Const as Said}
use Rattle.meaning.specs.declared.types.Atom.{Atom}
use Rattle.meaning.specs.declared.types.Val.{Val}
use Rattle.meaning.specs.declared.types.Val.TheVariants.{Const}
use Rattle.meaning.specs.declared.types.Ground.{Ground}
use Rattle.meaning.specs.Matching.{AreFacts, OccursIn, GroundsOf}
use Rattle.meaning.specs.Triggers.{bound}
use Rattle.homomorphism.specs.Bindings.{Agrees, IsBound}
use Rattle.connected_match.specs.declared.chain.Link.{Link}

-- Some assignment that agrees with what is given makes each atom a fact.
abbrev pub SomeMatch : List Ground → List Atom → List (Option Val) → Type 0
SomeMatch facts atoms given = (a : ℕ → Val) × Agrees given a × AreFacts Const (GroundsOf facts) a atoms

-- ---- going along links

-- A link leads from a row to the next where some assignment has the values of the row and of the link, makes the link's atom a fact, and has
-- the next row as the values of what is kept.
abbrev pub Leads : List Ground → Link → List Val → List Val → Type 0
Leads facts link row next =
    (a : ℕ → Val) × Agrees (map Some row ++ link.values) a × AreFacts Const (GroundsOf facts) a link.atoms × (next ≡ map a link.kept)

-- From the row each link leads to another row.
abbrev pub Completes : List Ground → List Link → List Val → Type 0
Completes facts [] row = Unit {0}
Completes facts (link ∷ links) row = (next : List Val) × Leads facts link row next × Completes facts links next

-- The rows are exactly those that the link leads to.
pub record AreNexts (facts : List Ground) (link : Link) (row : List Val) (rows : List (List Val)) : Type 0 where
  pub each : (next : List Val) → Contains rows next → Leads facts link row next
  pub all : (next : List Val) → Leads facts link row next → Contains rows next

-- A link fits rows of a width where its variables are those of the row and others, each other one occurs, and it keeps some of all of these.
pub record LinkFits (width : ℕ) (link : Link) : Type 0 where
  pub few : bound link.atoms ≤ width + length link.values
  pub others : (k : ℕ) → width ≤ k → k < width + length link.values → OccursIn link.atoms k
  pub kept : (k : ℕ) → Contains link.kept k → k < width + length link.values

-- Links fit rows of a width where the first does, and the others fit what it keeps.
abbrev pub FitFrom : ℕ → List Link → Type 0
FitFrom width [] = Unit {0}
FitFrom width (link ∷ links) = LinkFits width link × FitFrom (length link.kept) links

-- ---- links of atoms

-- The first place of a name, or how many names there are.
abbrev pub place_in : List ℕ → ℕ → ℕ
place_in [] name = 0
place_in (first ∷ names) name = if nat_eq first name then 0 else place_in names name + 1

-- A term with the place of its variable among the names.
abbrev pub local_in : List ℕ → Term → Term
local_in names (Var x) = Var (place_in names x)
local_in names (Said c) = Said c

-- The names with the term's variable, which comes last where it was not there.
abbrev pub with_term : List ℕ → Term → List ℕ
with_term names (Var x) = if nat_eq (place_in names x) (length names) then names ++ x ∷ [] else names
with_term names (Said c) = names

-- The value of a variable that is given, if there is one.
abbrev pub given_at : List (Option Val) → ℕ → Option Val
given_at given x = slice_index_or given x None

-- A link of an atom from a row of variables to the next.
pub record IsLink (given : List (Option Val)) (row : List ℕ) (atom : Atom) (next : List ℕ) (link : Link) : Type 0 where
  pub others : List ℕ
  pub own : (x : ℕ) → Contains atom.terms (Var x) → Contains (row ++ others) x
  pub others_own : (x : ℕ) → Contains others x → Contains atom.terms (Var x)
  pub others_named : (k : ℕ) → length row ≤ k → k < length row + length others → Contains (map (local_in (row ++ others)) atom.terms) (Var k)
  pub atom_is : link.atoms ≡ record { rel = atom.rel; terms = map (local_in (row ++ others)) atom.terms } ∷ []
  pub values_are : link.values ≡ map (given_at given) others
  pub kept_are : link.kept ≡ map (place_in (row ++ others)) next

-- The links of atoms, from a row of variables to the empty one. The variables of a row have no given values. One that the next row has is of
-- the link. One of the link that a later atom names has a given value, or the next row has it.
pub record IsCarried (given : List (Option Val)) (row : List ℕ) (atom : Atom) (next : List ℕ) (later : List Atom) : Type 0 where
  pub unknown : (x : ℕ) → Contains row x → IsBound given x → ⊥
  pub from_here : (x : ℕ) → Contains next x → Contains row x ⊎ Contains atom.terms (Var x)
  pub carried : (x : ℕ) → Contains row x ⊎ Contains atom.terms (Var x) → OccursIn later x → IsBound given x ⊎ Contains next x

abbrev pub IsChain : List (Option Val) → List ℕ → List Atom → List Link → Type 0
IsChain given row [] [] = row ≡ []
IsChain given row [] (link ∷ links) = ⊥
IsChain given row (atom ∷ atoms) [] = ⊥
IsChain given row (atom ∷ atoms) (link ∷ links) =
    (next : List ℕ) × IsLink given row atom next link × IsCarried given row atom next atoms × IsChain given next atoms links

-- ---- what an earlier atom names

-- The place of the first atom that names a variable.
abbrev pub first_of : List ℕ → ℕ → ℕ
first_of firsts x = slice_index_or firsts x 0

-- The table has for each variable the place of the first atom that names it, and some number from the end on where none does.
pub record AreFirsts (atoms : List Atom) (end width : ℕ) (firsts : List ℕ) : Type 0 where
  pub width_is : length firsts ≡ width
  pub first : (k x : ℕ) (atom : Atom) → slice_get atoms k ≡ Some atom → Contains atom.terms (Var x) → first_of firsts x ≤ k
  pub named : (x : ℕ) → x < width → first_of firsts x < end →
      (atom : Atom) × (slice_get atoms (first_of firsts x) ≡ Some atom) × Contains atom.terms (Var x)

-- The table with the variables of terms at this place at the latest.
pub record AreNoted (terms : List Term) (place : ℕ) (before after : List ℕ) : Type 0 where
  pub width_is : length after ≡ length before
  pub late : (x : ℕ) → Contains terms (Var x) → first_of after x ≤ place
  pub less : (x : ℕ) → first_of after x ≤ first_of before x
  pub either : (x : ℕ) → (first_of after x ≡ first_of before x) ⊎ ((first_of after x ≡ place) × Contains terms (Var x))

abbrev pub is_none : Option Val → Bool
is_none None = true
is_none (Some v) = false

-- Whether an earlier atom names the term's variable, which has no given value.
abbrev pub comes_before : List ℕ → ℕ → List (Option Val) → Term → Bool
comes_before firsts place given (Var x) = nat_lt (first_of firsts x) place && is_none (given_at given x)
comes_before firsts place given (Said c) = false

-- The variables of the row before an atom: those of the next row that an earlier atom names, and then the atom's own.
abbrev pub row_before : List ℕ → ℕ → List (Option Val) → List ℕ → List Term → List ℕ
row_before firsts place given next terms =
    fold with_term (filter (λ x. nat_lt (first_of firsts x) place) next) (filter (comes_before firsts place given) terms)

-- The variables of a table.
abbrev pub AreBelow : List ℕ → ℕ → Type 0
AreBelow names width = (x : ℕ) → Contains names x → x < width
