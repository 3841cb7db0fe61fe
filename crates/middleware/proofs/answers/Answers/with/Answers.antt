use Rattle.row_text.proofs.Packing.{packed_more}
use Rattle.middleware.proofs.answers.Answers.with.Goals as goal

pub invariant_of-result : goal.invariant_of-result
invariant_of-result c = (packed_more c.self.inside.ends.items c.push.new.self.items c.self.inside.rows c.in_ok-all.all c.args.rows c.len.result c.self.invariant c.in_ok-all.ensures c.len.ensures c.in_ok-push.ensures.items).0

pub returns : goal.returns
returns c = rw (← c.self.view_is) (packed_more c.self.inside.ends.items c.push.new.self.items c.self.inside.rows c.in_ok-all.all c.args.rows c.len.result c.self.invariant c.in_ok-all.ensures c.len.ensures c.in_ok-push.ensures.items).1
