use Rattle.source_trait.proofs.Stores.{store_push}
use Rattle.source_trait.proofs.Indexing.{indexes_push}
use Rattle.source_trait.proofs.holding.Holding.attach.Goals as goal

pub invariant_of-self-2 : goal.invariant_of-self-2
invariant_of-self-2 c = (
  rw c.in_ok-push.ensures.items (store_push c.self.inside.list.items c.args.attachment c.self.invariant.0 (rw c.self.view_is c.requires.absent) c.requires.fit),
  rw c.in_ok-push.ensures.items (indexes_push c.self.inside.list.items c.args.attachment c.self.inside.indexes.items (rw c.self.view_is c.requires.absent) c.self.invariant.1),
)
