use Rattle.middleware.proofs.lookup.method_of.Goals as goal

pub unreachable-requires : goal.unreachable-requires
unreachable-requires c = c.in-None.ensures.absent c.requires.0 c.requires.1
