use Rattle.std.proofs.Common.{take}
use Rattle.proof_search.specs.Choices.{ArePossibleGoals}
use Rattle.proof_search.proofs.goals.answered.Given as goal

-- of the first queries
abbrev pub invariant-loop-query : goal.invariant-loop-query
invariant-loop-query l = ArePossibleGoals (take l.query-index l.queries) l.head l.facts l.goals
