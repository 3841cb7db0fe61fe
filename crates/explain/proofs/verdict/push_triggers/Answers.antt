use Rattle.std.specs.Prelude.{flat_map, take}
use Rattle.explain.specs.Verdicts.{base_text}
use Rattle.fact_lines.proofs.Joining.{grown}
use Rattle.explain.proofs.Joining.{members_more}
use Rattle.explain.proofs.verdict.push_triggers.Goals as goal

pub loop-trigger-preserved : goal.loop-trigger-preserved
loop-trigger-preserved c =
    let line = base_text c.args.schema.now.rules in
    record {
      text = grown c.args.out.now.items c.loop-trigger.out.items c.push_base.new.out.items (flat_map line (take c.loop-trigger.trigger-index c.args.log.now)) (line c.trigger-item.result) _
          c.loop-trigger.invariant.text c.in_ok-push_base.ensures.text (members_more line c.args.log.now c.loop-trigger.trigger-index c.trigger-item.result c.loop-trigger-test.true c.trigger-item.is);
      utf8 = λ utf8. c.in_ok-push_base.ensures.utf8 (c.loop-trigger.invariant.utf8 utf8);
    }
