use Rattle.std.proofs.Common.{◌≡◌, ◌+◌, length}
use Rattle.access_schema.specs.Lists.{place_of}
use Rattle.access_schema.proofs.names.place_of.Given as goal

-- the place is as many on as texts were passed
abbrev pub invariant-loop-left : goal.invariant-loop-left
invariant-loop-left l = record { place : place_of l.texts l.text ≡ l.place + place_of l.left l.text; count : l.place + length l.left ≡ length l.texts }

abbrev pub decreases-loop-left : goal.decreases-loop-left
decreases-loop-left l = length l.left
