use Rattle.std.proofs.Common.{◌≡◌, length}
use Rattle.pdq.proofs.lanes.folders.Given as goal

abbrev pub invariant-loop : goal.invariant-loop
invariant-loop l = record { count : length l.folders.items ≡ l.counter }
