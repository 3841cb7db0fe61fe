use Rattle.std.proofs.Common.{◌≡◌, ◌+◌, ◌<◌, drop}
use Rattle.least_search.specs.Cuts.{rest_of}
use Rattle.least_search.proofs.rest.rest_with.Given as goal

-- what is due so far, with that of the cuts that are left, is what is to be paid
abbrev pub invariant-loop-number : goal.invariant-loop-number
invariant-loop-number l = record {
  sum : l.due + rest_of (drop l.number l.cuts) (drop l.number l.held) l.fact ≡ rest_of l.cuts l.held l.fact;
  low : l.due < l.below;
}
