use Rattle.std.proofs.Common.{take}
use Rattle.plan_check.proofs.Trying.{NoneHas}
use Rattle.plan_check.proofs.rows.some_has.Given as goal

-- none of the queries so far has the head
abbrev pub invariant-loop-form : goal.invariant-loop-form
invariant-loop-form l = NoneHas l.store l.head (take l.form-index l.forms)
