use Rattle.std.proofs.Common.{◌≡◌, length}
use Rattle.state_path.proofs.Paths.{left}
use Rattle.state_path.proofs.path.StatePath.truncate.Given as goal

abbrev pub invariant-loop : goal.invariant-loop
invariant-loop g l = (l.end ≡ length l.fn.self) × (l.self ≡ left l.fn.self l.count l.end l.counter)
