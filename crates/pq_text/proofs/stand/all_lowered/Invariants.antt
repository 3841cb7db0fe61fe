use Rattle.std.proofs.Common.{◌≡◌, take}
use Rattle.std.specs.Prelude.{map}
use Rattle.pq_text.specs.Standing.{lowered}
use Rattle.pq_text.proofs.stand.all_lowered.Given as goal

abbrev pub invariant-loop-b : goal.invariant-loop-b
invariant-loop-b l = l.out.items ≡ map lowered (take l.b-index l.bytes)
