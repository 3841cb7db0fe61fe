use Rattle.std.proofs.Common.{take}
use Rattle.connected_match.specs.Chains.{AreNoted}
use Rattle.connected_match.proofs.chain.note_first.Given as goal

-- the variables of the terms so far are noted
abbrev pub invariant-loop-term : goal.invariant-loop-term
invariant-loop-term l = AreNoted (take l.term-index l.terms) l.place l.fn.firsts.items l.firsts.items
