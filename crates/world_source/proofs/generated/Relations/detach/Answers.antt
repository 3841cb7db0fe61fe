use Rattle.std.proofs.Common.{refl}
use Rattle.source_trait.proofs.Stores.{store_without, gone, others_stay, facts_without}
use Rattle.world_source.specs.Generated.{attachments_of}
use Rattle.world_source.proofs.generated.Relations.detach.Goals as goal

pub invariant_of-self : goal.invariant_of-self
invariant_of-self c = rw c.take_away.ensures (store_without c.args.rel (attachments_of c.self.inside.list.items) c.self.invariant)

pub returns-clause-absent : goal.returns-clause-absent
returns-clause-absent c = rw (c.take_away.ensures) (gone c.args.rel (attachments_of c.self.inside.list.items))

pub returns-clause-gone : goal.returns-clause-gone
returns-clause-gone c = rw (c.take_away.ensures, gone c.args.rel (attachments_of c.self.inside.list.items)) refl

pub returns-clause-others : goal.returns-clause-others
returns-clause-others c = λ r apart. rw (c.take_away.ensures, ← c.self.view_is, others_stay c.args.rel r (attachments_of c.self.inside.list.items) apart) refl

pub returns-clause-facts : goal.returns-clause-facts
returns-clause-facts c = rw (c.take_away.ensures, ← c.self.view_is) (facts_without c.args.rel (attachments_of c.self.inside.list.items))
