use Rattle.std.proofs.Common.{◌≡◌, ◌≤◌, ◌++◌, length}
use Rattle.std.specs.List.{AllByRecursion}
use Rattle.pq_text.specs.Spans.{IsSpan, InOrder}
use Rattle.sql_batch.specs.Cutting.{cut, cut_from, IsPart}
use Rattle.sql_batch.proofs.cutting.parts_of.Given as goal

-- the parts so far, and those that the tokens that are left go on with
abbrev pub invariant-loop-left : goal.invariant-loop-left
invariant-loop-left l = record {
  spans : AllByRecursion (IsSpan l.text) l.left;
  order : InOrder l.from l.left;
  within : l.from ≤ length l.text;
  done : l.parts ++ cut_from l.text l.from l.left ≡ cut l.text l.tokens;
  stand : AllByRecursion (IsPart l.text) l.parts;
}

abbrev pub decreases-loop-left : goal.decreases-loop-left
decreases-loop-left l = length l.left
