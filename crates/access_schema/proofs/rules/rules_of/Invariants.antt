use Rattle.std.proofs.Common.{◌≡◌, ◌++◌, length}
use Rattle.access_schema.specs.Content.{rules_of}
use Rattle.access_schema.specs.Fits.{AreWithin}
use Rattle.access_schema.proofs.rules.rules_of.Given as goal

-- those so far, and those of the parts that are left
abbrev pub invariant-loop-left : goal.invariant-loop-left
invariant-loop-left l = record { are : rules_of l.relations l.parts ≡ l.rules.items ++ rules_of l.relations l.left; within : AreWithin l.left }

abbrev pub decreases-loop-left : goal.decreases-loop-left
decreases-loop-left l = length l.left
