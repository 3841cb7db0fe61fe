use Rattle.std.proofs.Common.{take, length}
use Rattle.connected_match.specs.Chains.{AreFirsts}
use Rattle.connected_match.proofs.chain.first_places.Given as goal

-- the table of the atoms so far
abbrev pub invariant-loop-place : goal.invariant-loop-place
invariant-loop-place l = AreFirsts (take l.place l.atoms) (length l.atoms) l.width l.firsts.items
