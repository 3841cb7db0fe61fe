use Rattle.std.proofs.Common.{◌≡◌, map, take}
use Rattle.connected_match.specs.Chains.{local_in}
use Rattle.connected_match.proofs.chain.local_terms.Given as goal

abbrev pub invariant-loop-term : goal.invariant-loop-term
invariant-loop-term l = l.locals.items ≡ map (local_in l.names) (take l.term-index l.terms)
