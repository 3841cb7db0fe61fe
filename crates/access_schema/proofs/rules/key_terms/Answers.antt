use Rattle.std.proofs.Common.{arith}
use Rattle.std.proofs.lemmas.Grind.{common_steps}
use Rattle.access_schema.proofs.Numbering.{key_on}
use Rattle.access_schema.proofs.rules.key_terms.Goals as goal

pub loop-left-preserved : goal.loop-left-preserved
loop-left-preserved c = record {
  are = key_on c.args.own.now c.args.columns.now c.args.target_columns.now c.args.target.now c.loop-left.left.now _ c.loop-left.terms.items c.push.new.self.items c.loop-left.next c.next_number-next.result c.key_number.result c.column-item.result
      (grind (arith, common_steps)) c.loop-left.invariant.are c.key_number.ensures.number c.next_number-next.ensures.number c.in_ok-push.ensures.items;
  above = grind (arith, common_steps);
  count = grind (arith, common_steps);
}
