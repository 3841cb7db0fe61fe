use Rattle.std.proofs.Common.{◌≤◌, length, subst, sym}
use Rattle.meaning.specs.Triggers.{terms_bound}
use Rattle.homomorphism.proofs.Binding.{place_fits}
use Rattle.connected_match.proofs.chain.row_before.Goals as goal

pub comes_before-requires-clause-own : goal.comes_before-requires-clause-own
comes_before-requires-clause-own c =
    place_fits c.as_slice-term-items.result.now c.loop-term.term-index c.term-item.result (length c.args.firsts.now) c.loop-term-test.true c.term-item.is
    (subst (λ l. terms_bound l ≤ length c.args.firsts.now) (sym c.as_slice-term-items.ensures) c.requires.own)
