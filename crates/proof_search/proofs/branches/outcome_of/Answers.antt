use Rattle.proof_search.proofs.branches.outcome_of.Goals as goal

pub returns-in-Some : goal.returns-in-Some
returns-in-Some c = rw c.in-Some.is at c.in_ok-branch.ensures.branch

pub without_goal-requires-clause-goal : goal.without_goal-requires-clause-goal
without_goal-requires-clause-goal c = rw c.in-None.is at c.in_ok-branch.ensures.none
