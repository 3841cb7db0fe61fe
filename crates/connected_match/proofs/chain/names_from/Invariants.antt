use Rattle.std.proofs.Common.{◌≡◌, take}
use Rattle.std.specs.Prelude.{fold}
use Rattle.connected_match.specs.Chains.{with_term}
use Rattle.connected_match.proofs.chain.names_from.Given as goal

abbrev pub invariant-loop-term : goal.invariant-loop-term
invariant-loop-term l = l.names.items ≡ fold with_term l.row (take l.term-index l.terms)
