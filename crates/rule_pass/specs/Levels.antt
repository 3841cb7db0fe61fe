-- A table with the level of each relation, while it is made.
use Rattle.std.specs.Prelude.{◌≡◌, ◌⊎◌, ℕ, ◌<◌, ◌≤◌, max, List, [], ◌∷◌, Contains, length, slice_index}
use Rattle.meaning.specs.declared.types.Atom.{Atom}
use Rattle.meaning.specs.declared.types.Rule.{Rule}
use Rattle.meaning.specs.RuleOrder.{IsFed}

-- The relations of the atoms have numbers below the count.
abbrev pub AreBelow : ℕ → List Atom → Type 0
AreBelow count atoms = (atom : Atom) → Contains atoms atom → atom.rel < count

-- The relations of the rules have numbers below the count.
abbrev pub RulesAreBelow : ℕ → List Rule → Type 0
RulesAreBelow count rules = (rule : Rule) → Contains rules rule → AreBelow count rule.body × AreBelow count rule.head

-- The greatest entry of the table at a relation of the atoms.
abbrev pub greatest_level : List ℕ → List Atom → ℕ
greatest_level levels [] = 0
greatest_level levels (atom ∷ atoms) = max (slice_index levels atom.rel) (greatest_level levels atoms)

-- Each entry is the number of steps of some chain of feeding that ends at its relation.
abbrev pub AreReached : List Rule → List ℕ → Type 0
AreReached rules levels = (rel : ℕ) → IsFed rules rel (slice_index levels rel)

-- No chain of feeding has more steps than there are rules.
abbrev pub AreShort : List Rule → Type 0
AreShort rules = (rel n : ℕ) → IsFed rules rel n → n ≤ length rules

-- A relation that a rule makes has a higher entry than each that it reads.
abbrev pub Rise : List Rule → List ℕ → Type 0
Rise rules levels =
    (rule : Rule) (from to : Atom) → Contains rules rule → Contains rule.body from → Contains rule.head to →
    slice_index levels from.rel < slice_index levels to.rel

-- The entries at the relations of the atoms are raised to this one at least, and the others stay.
pub record Raises (atoms : List Atom) (least : ℕ) (old new : List ℕ) : Type 0 where
  pub high : (atom : Atom) → Contains atoms atom → least ≤ slice_index new atom.rel
  pub grown : (rel : ℕ) → slice_index old rel ≤ slice_index new rel
  pub only : (rel : ℕ) → (slice_index new rel ≡ slice_index old rel)
      ⊎ ((slice_index new rel ≡ least) × ((atom : Atom) × Contains atoms atom × (atom.rel ≡ rel)))
