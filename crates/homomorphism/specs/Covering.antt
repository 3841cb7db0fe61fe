-- Variables that occur in atoms.
use Rattle.std.specs.Prelude.{ℕ, ◌<◌, ◌≤◌, List}
use Rattle.meaning.specs.declared.types.Atom.{Atom}
use Rattle.meaning.specs.Matching.{OccursIn}

-- Each variable from the start up to the end occurs in the atoms.
abbrev pub AllOccur : List Atom → ℕ → ℕ → Type 0
AllOccur atoms start end = (x : ℕ) → start ≤ x → x < end → OccursIn atoms x
