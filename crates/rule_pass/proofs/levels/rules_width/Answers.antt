use Rattle.std.proofs.Common.{subst, arith}
use Rattle.std.proofs.lemmas.List.{take_all}
use Rattle.lists.proofs.Places.{take_indexed}
use Rattle.rule_pass.specs.Levels.{AreBelow, RulesAreBelow}
use Rattle.rule_pass.proofs.Tables.{rules_below_more}
use Rattle.rule_pass.proofs.levels.rules_width.Goals as goal

pub loop-rule-preserved : goal.loop-rule-preserved
loop-rule-preserved c =
    let body : AreBelow c.relations_width-body.result c.rule-item.result.body = rw c.as_slice.ensures at c.relations_width-body.ensures in
    let head : AreBelow c.relations_width-head.result c.rule-item.result.head = rw c.as_slice-in-loop-rule.ensures at c.relations_width-head.ensures in
    rw (take_indexed c.args.rules.now c.loop-rule.rule-index c.rule-item.result c.loop-rule-test.true c.rule-item.is)
    (rules_below_more c.loop-rule.width c.max-width.result c.relations_width-body.result c.relations_width-head.result _ c.rule-item.result c.loop-rule.invariant (omega arith) body (omega arith) head (omega arith))

pub returns : goal.returns
returns c = subst (RulesAreBelow c.loop-rule.width) (take_all c.loop-rule.rule-index c.args.rules.now c.loop-rule-test.false) c.loop-rule.invariant
