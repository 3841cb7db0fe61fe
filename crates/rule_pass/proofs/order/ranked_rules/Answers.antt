use Rattle.std.proofs.Common.{◌≡◌}
use Rattle.rule_pass.specs.Levels.{greatest_level}
use Rattle.homomorphism.proofs.AtomByAtom.{is_among}
use Rattle.rule_pass.proofs.Ranking.{ranked_more}
use Rattle.rule_pass.proofs.order.ranked_rules.Goals as goal

pub greatest_level-requires : goal.greatest_level-requires
greatest_level-requires c = rw c.as_slice.ensures (c.requires.below c.index-rules-number.result (is_among c.args.rules.now c.loop-number.number c.index-rules-number.result c.loop-number-test.true c.index-rules-number.is)).0

pub loop-number-preserved : goal.loop-number-preserved
loop-number-preserved c =
    let leveled : c.greatest_level.result ≡ greatest_level c.args.levels.now c.index-rules-number.result.body = rw c.as_slice.ensures at c.greatest_level.ensures in
    rw c.in_ok-push.ensures.items (ranked_more c.args.rules.now c.args.levels.now c.loop-number.number c.greatest_level.result c.index-rules-number.result c.loop-number.ranked.items c.loop-number-test.true c.index-rules-number.is leveled c.loop-number.invariant)
