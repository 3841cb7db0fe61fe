use Rattle.std.proofs.Common.{◌≡◌, ◌-◌, ◌^◌, min, map, take}
use Rattle.crawl_rounds.specs.Rounds.{round_count}
use Rattle.crawl_rounds.specs.Lent.{lent_class}
use Rattle.crawl_rounds.proofs.counting.count_round.Given as goal

-- the requests of the classes so far
abbrev pub invariant-loop-class : goal.invariant-loop-class
invariant-loop-class l = l.total ≡ min (round_count l.first l.known l.fresh (map lent_class (take l.class-index l.classes))) (2 ^ 32 - 1)
