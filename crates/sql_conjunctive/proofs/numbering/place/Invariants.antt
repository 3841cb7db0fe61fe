use Rattle.std.proofs.Common.{◌≡◌, ◌+◌, length}
use Rattle.sql_conjunctive.specs.Numbering.{place_from}
use Rattle.sql_conjunctive.proofs.numbering.place.Given as goal

abbrev pub invariant-loop-left : goal.invariant-loop-left
invariant-loop-left l = record { rest : place_from l.number l.left l.variable ≡ place_from 0 l.order l.variable; far : l.number + length l.left ≡ length l.order }

abbrev pub decreases-loop-left : goal.decreases-loop-left
decreases-loop-left l = length l.left
