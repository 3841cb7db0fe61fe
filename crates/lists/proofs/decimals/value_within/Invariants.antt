use Rattle.std.proofs.Common.{◌≡◌, ◌≤◌, length}
use Rattle.std.specs.Str.{all_ascii_digits}
use Rattle.lists.specs.Digits.{value_from}
use Rattle.lists.proofs.decimals.value_within.Given as goal

-- the digits up to here have this value, which is within the limit
abbrev pub invariant-loop-left : goal.invariant-loop-left
invariant-loop-left l = record {
  digits : all_ascii_digits l.digits ≡ all_ascii_digits l.left;
  value : value_from 0 l.digits ≡ value_from l.value l.left;
  within : l.value ≤ l.limit;
}

abbrev pub decreases-loop-left : goal.decreases-loop-left
decreases-loop-left l = length l.left
