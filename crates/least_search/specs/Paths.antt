-- Paths that share their beginnings.
use Rattle.std.specs.Prelude.{ℕ, ◌+◌, ◌<◌, List, [], ◌∷◌, ◌++◌, slice_index_or}
use Rattle.least_search.specs.declared.space.Move.{Move}
use Rattle.least_search.specs.declared.paths.Step.{Step}

-- Each step makes a path: that with the number, and one move more.
abbrev pub paths_from : List (List Move) → List Step → List (List Move)
paths_from paths [] = paths
paths_from paths (step ∷ steps) = paths_from (paths ++ (slice_index_or paths step.before [] ++ step.last ∷ []) ∷ []) steps

-- The path without moves, and those of the steps.
abbrev pub paths_of : List Step → List (List Move)
paths_of steps = paths_from ([] ∷ []) steps

-- Each step goes on from an earlier path, where so many stand before the first.
abbrev pub GoOn : ℕ → List Step → Type 0
GoOn count [] = Unit {0}
GoOn count (step ∷ steps) = (step.before < count) × GoOn (count + 1) steps
