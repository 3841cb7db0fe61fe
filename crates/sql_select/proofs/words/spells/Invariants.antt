use Rattle.std.proofs.Common.{◌≡◌, length, map, nat_eq}
use Rattle.std.specs.Cmp.Lexicographic.{pointwise}
use Rattle.pq_text.specs.Standing.{lowered}
use Rattle.sql_select.proofs.words.spells.Given as goal

-- what is left decides
abbrev pub invariant-loop-left : goal.invariant-loop-left
invariant-loop-left l = pointwise nat_eq l.other (map lowered l.left) ≡ pointwise nat_eq l.word (map lowered l.bytes)

abbrev pub decreases-loop-left : goal.decreases-loop-left
decreases-loop-left l = length l.left
