use Rattle.std.proofs.Common.{◌≡◌, ◌+◌, ◌++◌, length}
use Rattle.access_schema.specs.Content.{places_from}
use Rattle.access_schema.proofs.content.places_of.Given as goal

-- those so far, and those of the columns that are left
abbrev pub invariant-loop-left : goal.invariant-loop-left
invariant-loop-left l = record { are : places_from 0 l.names l.columns ≡ l.places.items ++ places_from l.place l.names l.left; count : l.place + length l.left ≡ length l.columns }

abbrev pub decreases-loop-left : goal.decreases-loop-left
decreases-loop-left l = length l.left
