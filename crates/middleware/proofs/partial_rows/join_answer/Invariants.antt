use Rattle.std.proofs.Common.{◌≡◌, ◌++◌, take}
use Rattle.middleware.specs.Joining.{grown}
use Rattle.middleware.proofs.partial_rows.join_answer.Given as goal

abbrev pub invariant-loop-number : goal.invariant-loop-number
invariant-loop-number l = l.more ≡ l.fn.into ++ grown l.places (take l.number l.answer) l.row
