use Rattle.std.proofs.Common.{◌≡◌, ◌+◌, length}
use Rattle.connected_match.specs.Chains.{place_in}
use Rattle.connected_match.proofs.chain.place_of.Given as goal

-- the place is as many on as names were passed
abbrev pub invariant-loop-left : goal.invariant-loop-left
invariant-loop-left l = record { place : place_in l.names l.name ≡ l.place + place_in l.left l.name; count : l.place + length l.left ≡ length l.names }

abbrev pub decreases-loop-left : goal.decreases-loop-left
decreases-loop-left l = length l.left
