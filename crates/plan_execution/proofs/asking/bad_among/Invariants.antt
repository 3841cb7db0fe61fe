use Rattle.std.proofs.Common.{take}
use Rattle.access_schema.specs.Meaning.{meaning_of}
use Rattle.bad_numbers.specs.Numbers.{FindsBad}
use Rattle.plan_execution.specs.Rounding.{rows_in}
use Rattle.plan_execution.proofs.asking.bad_among.Given as goal

-- the finding is that of the answers so far
abbrev pub invariant-loop-number : goal.invariant-loop-number
invariant-loop-number l = FindsBad (meaning_of l.schema) l.rel (rows_in (take l.number l.answers)) l.found
