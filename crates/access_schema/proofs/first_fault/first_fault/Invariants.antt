use Rattle.std.proofs.Common.{take}
use Rattle.access_schema.specs.Progress.{StandsFor}
use Rattle.access_schema.proofs.FirstFault.{FaultlessBelow}
use Rattle.access_schema.proofs.first_fault.first_fault.Given as goal

-- no part so far has a fault, and what is kept stands for them
abbrev pub invariant-loop-index : goal.invariant-loop-index
invariant-loop-index l = record { faultless : FaultlessBelow l.parts l.index; stands : StandsFor l.relations (take l.index l.parts) l.known.items l.links.items }
