use Rattle.std.proofs.Common.{◌≡◌, ◌∷◌}
use Rattle.data_verify.proofs.least.led_by.Given as goal

abbrev pub invariant-loop-fact : goal.invariant-loop-fact
invariant-loop-fact l = l.facts ≡ l.fn.first ∷ l.yielded
