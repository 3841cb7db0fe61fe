use Rattle.std.proofs.Common.{◌≡◌, take}
use Rattle.least_search.specs.Cuts.{holding}
use Rattle.least_search.proofs.rest.held_marks.Given as goal

abbrev pub invariant-loop-cut : goal.invariant-loop-cut
invariant-loop-cut l = l.held.items ≡ holding (take l.cut-index l.cuts) l.set
