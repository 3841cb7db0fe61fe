use Rattle.proof_search.proofs.sparing.spare.Goals as goal

pub cheaper_of-requires-clause-other : goal.cheaper_of-requires-clause-other
cheaper_of-requires-clause-other c = rw c.in-Some.is at c.in_ok-branch.ensures
