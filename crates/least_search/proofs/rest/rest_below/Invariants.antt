use Rattle.std.proofs.Common.{◌≡◌, ◌+◌, ◌<◌, drop}
use Rattle.least_search.specs.Cuts.{rest}
use Rattle.least_search.proofs.rest.rest_below.Given as goal

-- what is due so far, with that of the cuts that are left, is what is to be paid
abbrev pub invariant-loop-cut : goal.invariant-loop-cut
invariant-loop-cut l = record {
  sum : l.due + rest (drop l.cut-index l.cuts) l.set ≡ rest l.cuts l.set;
  low : l.due < l.below;
}
