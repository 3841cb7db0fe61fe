use Rattle.homomorphism.proofs.find.all_matches.Goals as goal

pub every-requires-clause-covered : goal.every-requires-clause-covered
every-requires-clause-covered c = rw c.as_slice.ensures (rw c.in_ok-given.ensures c.requires.covered)
