use Rattle.std.proofs.Common.{ap}
use Rattle.std.specs.Prelude.{Ok}
use Rattle.lists.proofs.Places.{got_indexed}
use Rattle.exposure_search.specs.Relevance.{IsWanted}
use Rattle.exposure_search.proofs.Still.{makers_none, makers_more, makers_all}
use Rattle.exposure_search.proofs.wanted.making_rules.Goals as goal

pub loop-rule-init : goal.loop-rule-init
loop-rule-init c = makers_none c.args.rules.now c.args.next (IsWanted c.args.queries.now c.args.head.now c.args.wanted.now) c.new-makers.result.items c.new-makers.ensures.items

pub loop-rule-preserved : goal.loop-rule-preserved
loop-rule-preserved c =
    rw c.in_ok-push.ensures.items (makers_more c.args.rules.now c.args.next (IsWanted c.args.queries.now c.args.head.now c.args.wanted.now) c.loop-rule.rule-index c.loop-rule.makers.items c.rule-item.result c.in_ok-makes.makes c.loop-rule.invariant
    (got_indexed c.args.rules.now c.loop-rule.rule-index c.rule-item.result c.loop-rule-test.true c.rule-item.is) (λ none. c.in_ok-makes.ensures (ap (λ b. Ok b) none)))

pub returns : goal.returns
returns c = makers_all c.args.rules.now c.args.next (IsWanted c.args.queries.now c.args.head.now c.args.wanted.now) c.loop-rule.rule-index c.loop-rule.makers.items c.loop-rule-test.false c.loop-rule.invariant
