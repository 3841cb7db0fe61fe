use Rattle.std.proofs.Common.{◌≡◌, [], length}
use Rattle.tgd_reader.specs.Reading.{parts_from}
use Rattle.tgd_reader.proofs.parts.all_parts.Given as goal

abbrev pub invariant-loop-left : goal.invariant-loop-left
invariant-loop-left l = parts_from l.has_sorts [] [] l.lines ≡ parts_from l.has_sorts l.parts l.numbers l.left

abbrev pub decreases-loop-left : goal.decreases-loop-left
decreases-loop-left l = length l.left
