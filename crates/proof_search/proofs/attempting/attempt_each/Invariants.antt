use Rattle.proof_search.specs.Attempts.{AreAttempts}
use Rattle.proof_search.proofs.attempting.attempt_each.Given as goal

abbrev pub invariant-loop-step : goal.invariant-loop-step
invariant-loop-step l = AreAttempts l.question l.attempts
