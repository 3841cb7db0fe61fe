use Rattle.std.proofs.Common.{arith, rules}
use Rattle.std.proofs.lemmas.Grind.{common_steps}
use Rattle.sql_conjunctive.proofs.Opening.{opening_step}
use Rattle.sql_conjunctive.proofs.merging.opening.Goals as goal

pub loop-left-preserved : goal.loop-left-preserved
loop-left-preserved c = record {
  few = grind (arith, common_steps, c.loop-left.invariant.few);
  made = opening_step c.args.relations.now c.loop-left.from c.loop-left.atoms.items c.push.new.self.items _ c.loop-left.left.now (search rules) (search rules) c.loop-left.invariant.made;
}
