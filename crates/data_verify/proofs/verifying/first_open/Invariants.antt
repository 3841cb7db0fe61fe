use Rattle.data_verify.specs.Finding.{IsOpen, AreMet}
use Rattle.data_verify.proofs.verifying.first_open.Given as goal

abbrev pub invariant-loop-number : goal.invariant-loop-number
invariant-loop-number l = AreMet (IsOpen l.found) l.fn.instance l.schema.rules l.number
