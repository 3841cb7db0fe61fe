-- States that grow one out of another, each under a key of a slab: what it adds, and the key of its parent.
use Rattle.std.specs.Prelude.{◌≡◌, ℕ, List, [], ◌∷◌, Option, Some, None, Contains}
use Rattle.slab.specs.Slab.{Slab, get}
use Rattle.state_path.specs.declared.path.Delta.{Delta}

module _ {T : Type 0} where
  -- what a state adds, where there is one, before what the later ones add
  abbrev pub with_added : Option (Delta T) → List T → List T
  with_added None later = later
  with_added (Some delta) later = delta.added ∷ later

  -- what the states under these keys add, in order
  abbrev pub added_along : Slab (Delta T) → List ℕ → List T
  added_along states [] = []
  added_along states (key ∷ keys) = with_added (get states key) (added_along states keys)

  -- Each key has a state, whose parent is the key before it, and no key stands twice.
  abbrev pub IsPathFrom : Slab (Delta T) → Option ℕ → List ℕ → Type 0
  IsPathFrom states parent [] = Unit {0}
  IsPathFrom states parent (key ∷ keys) = ((delta : Delta T) × (get states key ≡ Some delta) × (delta.parent ≡ parent))
      × (Contains keys key → ⊥) × IsPathFrom states (Some key) keys
