use Rattle.std.proofs.Common.{◌≡◌, length}
use Rattle.std.specs.List.{find}
use Rattle.access_schema.specs.Content.{is_named}
use Rattle.access_schema.proofs.lookup.find.Given as goal

-- the relation is the first of that name among those that are left
abbrev pub invariant-loop-left : goal.invariant-loop-left
invariant-loop-left l = find (is_named l.name) l.relations ≡ find (is_named l.name) l.left

abbrev pub decreases-loop-left : goal.decreases-loop-left
decreases-loop-left l = length l.left
