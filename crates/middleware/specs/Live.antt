-- Columns that a later place or the output names.
use Rattle.std.specs.Prelude.{◌∷◌, ℕ, List, [], Bool, true, false, nat_eq, if◌then◌else◌}
use Rattle.meaning.specs.declared.types.Place.{Place}
use Rattle.meaning.specs.declared.types.Place.TheVariants.{Const, Col, New}
use Rattle.meaning.specs.declared.types.Out.{Out}
use Rattle.meaning.specs.declared.types.Out.TheVariants.{Const as Fixed, Col as Made}
use Rattle.meaning.specs.declared.types.Step.{Step}

-- whether one of the places names the column
abbrev pub is_named : List Place → ℕ → Bool
is_named [] k = false
is_named (Const c ∷ places) k = is_named places k
is_named (Col j ∷ places) k = if nat_eq j k then true else is_named places k
is_named (New ∷ places) k = is_named places k

-- whether an output place names the column
abbrev pub is_shown : List Out → ℕ → Bool
is_shown [] k = false
is_shown (Fixed c ∷ outs) k = is_shown outs k
is_shown (Made j ∷ outs) k = if nat_eq j k then true else is_shown outs k

-- a column is live before steps where a place of theirs or the output names it
abbrev pub is_live : List Step → List Out → ℕ → Bool
is_live [] outs k = is_shown outs k
is_live (step ∷ steps) outs k = if is_named step.places k then true else is_live steps outs k
