use Rattle.std.proofs.Common.{◌≤◌, length, map, take}
use Rattle.std.specs.Prelude.{Contains}
use Rattle.crawl_rounds.specs.Lent.{lent_class}
use Rattle.crawl_rounds.specs.Rounds.{Class}
use Rattle.crawl.proofs.beginnings.has_more_inputs.Given as goal

-- the classes so far have one input or none
abbrev pub invariant-loop-class : goal.invariant-loop-class
invariant-loop-class l = (class : Class) → Contains (map lent_class (take l.class-index l.classes)) class → length class.1 ≤ 1
