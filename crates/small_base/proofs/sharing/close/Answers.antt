use Rattle.access_schema.specs.Meaning.{meaning_of}
use Rattle.rule_pass.proofs.Ordered.{order_below}
use Rattle.small_base.proofs.Growing.{grows_on}
use Rattle.small_base.proofs.sharing.close.Goals as goal

pub close_rule-requires : goal.close_rule-requires
close_rule-requires c =
    rw c.as_slice-number-items.ensures
    (order_below c.args.schema.now.rules c.in_ok-order.order c.loop-number.number-index c.in_ok-order.ensures (rw c.as_slice-number-items.ensures at c.loop-number-test.true))

pub returns-then-not-branch-clause-grows : goal.returns-then-not-branch-clause-grows
returns-then-not-branch-clause-grows c = grows_on (meaning_of c.args.schema.now) c.args.state.now.facts c.args.state.now.next c.loop-number.state c.close_rule.new.state c.loop-number.invariant c.in_ok-close_rule.ensures

pub loop-number-preserved : goal.loop-number-preserved
loop-number-preserved c = grows_on (meaning_of c.args.schema.now) c.args.state.now.facts c.args.state.now.next c.loop-number.state c.close_rule.new.state c.loop-number.invariant c.in_ok-close_rule.ensures
