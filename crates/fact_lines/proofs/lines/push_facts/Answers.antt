use Rattle.std.specs.Prelude.{flat_map, map, take}
use Rattle.fact_lines.specs.Lent.{lent_fact}
use Rattle.fact_lines.specs.Lines.{fact_text}
use Rattle.fact_lines.proofs.Joining.{lent_more, grown}
use Rattle.fact_lines.proofs.lines.push_facts.Goals as goal

pub loop-rel-preserved : goal.loop-rel-preserved
loop-rel-preserved c =
    let line = fact_text c.args.schema.now.relations in
    record {
      text = grown c.args.out.now.items c.loop-rel.out.items c.push_fact.new.out.items (flat_map line (map lent_fact (take c.loop-rel.rel-index c.args.facts.now))) (line (lent_fact c.loop-rel-item.result)) _
          c.loop-rel.invariant.text c.in_ok-push_fact.ensures.text (lent_more line lent_fact c.args.facts.now c.loop-rel.rel-index c.loop-rel-item.result c.loop-rel-test.true c.loop-rel-item.is);
      utf8 = λ utf8. c.in_ok-push_fact.ensures.utf8 (c.loop-rel.invariant.utf8 utf8);
    }
