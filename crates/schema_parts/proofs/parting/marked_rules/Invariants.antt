use Rattle.std.proofs.Common.{◌≡◌, ◌++◌, length}
use Rattle.schema_parts.specs.Parts.{marked}
use Rattle.schema_parts.proofs.parting.marked_rules.Given as goal

-- those so far, and those of the rules that are left
abbrev pub invariant-loop-left : goal.invariant-loop-left
invariant-loop-left l = marked l.rules l.marks ≡ l.kept ++ marked l.left l.open

abbrev pub decreases-loop-left : goal.decreases-loop-left
decreases-loop-left l = length l.left
