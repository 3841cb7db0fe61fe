use Rattle.source_trait.proofs.Stores.{grows_by}
use Rattle.source_trait.proofs.holding.Holding.take.Goals as goal

pub returns : goal.returns
returns c =
    let g = grows_by c.args.self.now c.attach.new.self c.in_ok-attachment.attachment c.args.rel c.args.columns.now c.args.locator.now c.args.rows c.args.size c.in_ok-attachment.ensures c.in_ok-attach.ensures.ok c.requires.absent in
    record { attached = g.attached; others = g.others; facts = g.facts; loads = g.loads; err = tt }
