use Rattle.std.proofs.Common.{◌≡◌, ◌++◌, take}
use Rattle.accessible_copy.proofs.values.Values.add_copies.Given as goal

abbrev pub invariant-loop-val : goal.invariant-loop-val
invariant-loop-val l = l.self ≡ l.fn.self ++ take l.val-index l.vals
