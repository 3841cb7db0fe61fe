use Rattle.std.proofs.Common.{◌≡◌, ◌++◌, map}
use Rattle.std.specs.Vec.Iter.{into_iter_items}
use Rattle.homomorphism.specs.Walks.{begun}
use Rattle.homomorphism.proofs.walk.turnings_of.Given as goal

abbrev pub invariant-loop-counts : goal.invariant-loop-counts
invariant-loop-counts l = record {
  parts : l.yielded ++ into_iter_items l.counts-iterator ≡ l.fn.groups.items;
  made : l.turnings.items ≡ map begun l.yielded;
}
