use Rattle.std.proofs.Common.{◌≡◌}
use Rattle.meaning.specs.Added.{with_facts}
use Rattle.homomorphism.proofs.store.Store.add_each.Given as goal

abbrev pub invariant-loop-fact : goal.invariant-loop-fact
invariant-loop-fact l = l.self ≡ with_facts l.fn.self l.yielded
