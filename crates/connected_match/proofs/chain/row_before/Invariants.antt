use Rattle.std.proofs.Common.{◌≡◌, take}
use Rattle.connected_match.specs.Chains.{row_before}
use Rattle.connected_match.proofs.chain.row_before.Given as goal

abbrev pub invariant-loop-term : goal.invariant-loop-term
invariant-loop-term l = l.row.items ≡ row_before l.firsts l.place l.given l.next (take l.term-index l.atom.terms)
