use Rattle.std.proofs.Common.{◌≡◌, map, take}
use Rattle.small_base.specs.Closed.{term_of}
use Rattle.small_base.proofs.closed.atom_over.Given as goal

-- the first values
abbrev pub invariant-loop-val : goal.invariant-loop-val
invariant-loop-val l = l.terms.items ≡ map term_of (take l.val-index l.fact.vals)
