-- Proofs over some of the rules.
use Rattle.std.specs.Prelude.{◌≡◌, length}
use Rattle.std.specs.Option.{IfSome}
use Rattle.proof_search.specs.declared.attempting.Attempt.{Attempt}
use Rattle.proof_search.specs.declared.attempting.Attempts.{Attempts}
use Rattle.proof_search.specs.declared.question.Question.{Question}
use Rattle.proof_search.specs.Questions.{IsBranchOn}

-- The branch of the attempt, if it has one, is one for the query.
abbrev pub IsAttempt : Question → Attempt → Type 0
IsAttempt question attempt = IfSome attempt.branch (IsBranchOn question)

-- There is a mark for each rule of the schema, and the best branch, if there is one, is one for the query.
pub record AreAttempts (question : Question) (attempts : Attempts) : Type 0 where
  pub kept : length attempts.kept.items ≡ length question.schema.now.rules
  pub best : IfSome attempts.best (IsBranchOn question)
