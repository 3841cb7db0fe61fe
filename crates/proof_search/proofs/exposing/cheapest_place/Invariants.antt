use Rattle.std.proofs.Common.{◌<◌, length}
use Rattle.proof_search.proofs.exposing.cheapest_place.Given as goal

abbrev pub invariant-loop-place : goal.invariant-loop-place
invariant-loop-place l = l.best < length l.found
