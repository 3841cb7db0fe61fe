use Rattle.access_schema.specs.Meaning.{meaning_of}
use Rattle.proof_search.proofs.Found.{AreTried}
use Rattle.proof_search.proofs.branches.first_branches.Given as goal

-- the queries so far have branches, or the firings of a first one are spent
abbrev pub invariant-loop-number : goal.invariant-loop-number
invariant-loop-number l =
    AreTried (meaning_of l.questions.schema.now) l.questions.known.now l.questions.queries.now l.questions.firings l.number l.firsts l.spent
