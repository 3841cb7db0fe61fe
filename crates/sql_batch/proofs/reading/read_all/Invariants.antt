use Rattle.std.proofs.Common.{◌≡◌, ◌++◌, List, length}
use Rattle.std.specs.List.{AllByRecursion}
use Rattle.sql_batch.specs.declared.cutting.Part.{Part}
use Rattle.sql_batch.specs.Cutting.{IsPart}
use Rattle.sql_batch.specs.Reading.{IsRead}
use Rattle.sql_batch.proofs.reading.read_all.Given as goal

-- what was read of the parts that were passed
abbrev pub invariant-loop-left : goal.invariant-loop-left
invariant-loop-left l = record {
  read : (passed : List Part) × (l.parts ≡ passed ++ l.left) × IsRead l.schema l.bytes passed l.read;
  stand : AllByRecursion (IsPart l.bytes) l.left;
}

abbrev pub decreases-loop-left : goal.decreases-loop-left
decreases-loop-left l = length l.left
