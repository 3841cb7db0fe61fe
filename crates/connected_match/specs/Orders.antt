-- Atoms in another order.
use Rattle.std.specs.Prelude.{◌≡◌, ◌↔◌, ℕ, List, Contains, length, slice_get, slice_index_or, Some, true, false}
use Rattle.meaning.specs.declared.types.Atom.{Atom}
use Rattle.connected_match.specs.declared.order.Arranging.{Arranging}

-- Both lists have the same atoms.
abbrev pub HasSame : List Atom → List Atom → Type 0
HasSame atoms ordered = (atom : Atom) → Contains atoms atom ↔ Contains ordered atom

-- The atom of that number is placed.
abbrev pub IsPlaced : Arranging → ℕ → Type 0
IsPlaced arranging k = slice_index_or arranging.placed.items k false ≡ true

-- The atoms so far are some of the atoms, among them those that are placed.
pub record IsArranging (atoms : List Atom) (arranging : Arranging) : Type 0 where
  pub width : length arranging.placed.items ≡ length atoms
  pub each : (atom : Atom) → Contains arranging.ordered.items atom → Contains atoms atom
  pub there : (k : ℕ) (atom : Atom) → IsPlaced arranging k → slice_get atoms k ≡ Some atom → Contains arranging.ordered.items atom

-- What is placed stays so.
abbrev pub StaysPlaced : Arranging → Arranging → Type 0
StaysPlaced before after = (k : ℕ) → IsPlaced before k → IsPlaced after k
