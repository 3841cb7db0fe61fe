use Rattle.std.proofs.Common.{◌≡◌, ◌<◌, ◌++◌, [], length, reverse}
use Rattle.std.specs.Prelude.{slice_index_or}
use Rattle.least_search.proofs.paths.Paths.get.Given as goal

-- the path to the place, and back what was passed, is the path
abbrev pub invariant-loop-place : goal.invariant-loop-place
invariant-loop-place l = record {
  within : l.place < length l.self;
  path : slice_index_or l.self l.number [] ≡ slice_index_or l.self l.place [] ++ reverse l.path.items;
}

abbrev pub decreases-loop-place : goal.decreases-loop-place
decreases-loop-place l = l.place
