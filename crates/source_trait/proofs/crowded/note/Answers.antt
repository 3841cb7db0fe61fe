use Rattle.source_trait.proofs.Crowding.{noted_below}
use Rattle.source_trait.proofs.crowded.note.Goals as goal

pub returns-in_ok-insert : goal.returns-in_ok-insert
returns-in_ok-insert c = λ bound below old. noted_below c.args.chains.now c.insert.new.self c.args.values c.args.chain bound c.in_ok-insert.ensures.updates below old
