use Rattle.std.proofs.Common.{take}
use Rattle.access_schema.specs.Meaning.{meaning_of}
use Rattle.plan_check.proofs.Trying.{SoFar}
use Rattle.plan_check.proofs.trial.try_each.Given as goal

-- what the queries so far come to, none of which separates
abbrev pub invariant-loop-number : goal.invariant-loop-number
invariant-loop-number l = SoFar (meaning_of l.trial.schema.now) l.trial.others.now l.trial.firings (take l.number l.forms) l.spent
