use Rattle.std.proofs.Common.{take}
use Rattle.source_trait.specs.Asking.{HaveArity}
use Rattle.middleware.proofs.whole_answer.have_arity.Given as goal

-- the rows so far have the arity
abbrev pub invariant-loop-number : goal.invariant-loop-number
invariant-loop-number l = HaveArity l.arity (take l.number l.rows)
