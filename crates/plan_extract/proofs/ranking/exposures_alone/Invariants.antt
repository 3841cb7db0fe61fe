use Rattle.std.proofs.Common.{◌≡◌, map, take}
use Rattle.plan_extract.specs.declared.ranking.Ranked.{Ranked}
use Rattle.plan_extract.proofs.ranking.exposures_alone.Given as goal

-- the exposures so far
abbrev pub invariant-loop-one : goal.invariant-loop-one
invariant-loop-one l = l.exposures.items ≡ map (λ (one : Ranked). one.exposure) (take l.one-index l.ranked)
