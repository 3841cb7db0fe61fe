use Rattle.std.proofs.Common.{take}
use Rattle.meaning.specs.Access.{CanAccess}
use Rattle.access_schema.specs.Meaning.{meaning_of}
use Rattle.no_plan_witness.proofs.Turns.{EachOf}
use Rattle.no_plan_witness.proofs.accessible.first_accessible.Given as goal

-- none of the facts so far can be accessed
abbrev pub invariant-loop-place : goal.invariant-loop-place
invariant-loop-place l = EachOf (λ fact. CanAccess (meaning_of l.schema) l.constants l.earlier fact → ⊥) (take l.place l.waiting)
