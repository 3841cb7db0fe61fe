use Rattle.std.proofs.Common.{◌≡◌, map, take}
use Rattle.crawl_rounds.specs.Lent.{lent_class, class_of}
use Rattle.crawl_rounds.proofs.class_list.lent.Given as goal

-- the classes are those of the methods so far
abbrev pub invariant-loop-method : goal.invariant-loop-method
invariant-loop-method l = map lent_class l.found.items ≡ map class_of (take l.method-index l.methods)
