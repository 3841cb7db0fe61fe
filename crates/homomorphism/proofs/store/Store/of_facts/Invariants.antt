use Rattle.std.proofs.Common.{◌≡◌}
use Rattle.homomorphism.proofs.store.Store.of_facts.Given as goal

abbrev pub invariant-loop-fact : goal.invariant-loop-fact
invariant-loop-fact l = l.store ≡ l.yielded
