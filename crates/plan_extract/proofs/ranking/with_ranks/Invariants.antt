use Rattle.std.proofs.Common.{◌≡◌, map, take}
use Rattle.plan_extract.specs.declared.ranking.Ranked.{Ranked}
use Rattle.plan_extract.proofs.ranking.with_ranks.Given as goal

-- the exposures so far, each with a rank
abbrev pub invariant-loop-number : goal.invariant-loop-number
invariant-loop-number l = map (λ (one : Ranked). one.exposure) l.ranked.items ≡ take l.number l.exposures
