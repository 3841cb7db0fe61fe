use Rattle.std.specs.Prelude.{flat_map, take}
use Rattle.explain.specs.Printing.{firing_text}
use Rattle.fact_lines.proofs.Joining.{grown}
use Rattle.explain.proofs.Joining.{members_more}
use Rattle.explain.proofs.firings.push_firings.Goals as goal

pub loop-firing-preserved : goal.loop-firing-preserved
loop-firing-preserved c =
    let line = firing_text c.args.schema.now.rules c.args.schema.now.methods in
    record {
      text = grown c.args.out.now.items c.loop-firing.out.items c.push_firing.new.out.items (flat_map line (take c.loop-firing.firing-index c.args.log.now)) (line c.firing-item.result) _
          c.loop-firing.invariant.text c.in_ok-push_firing.ensures.text (members_more line c.args.log.now c.loop-firing.firing-index c.firing-item.result c.loop-firing-test.true c.firing-item.is);
      utf8 = λ utf8. c.in_ok-push_firing.ensures.utf8 (c.loop-firing.invariant.utf8 utf8);
    }
