use Rattle.std.proofs.Common.{◌≤◌, length}
use Rattle.std.specs.Prelude.{Contains}
use Rattle.meaning.specs.declared.types.Firing.{Firing}
use Rattle.proof_search.proofs.exposing.cheapest.Given as goal

-- some of the exposures
abbrev pub invariant-loop-place : goal.invariant-loop-place
invariant-loop-place l = record {
  among : (firing : Firing) → Contains l.cheap firing → Contains l.found firing;
  some : 1 ≤ length l.cheap;
}
