use Rattle.data_verify.specs.Finding.{IsInclusion, AreMet}
use Rattle.data_verify.proofs.verifying.first_inclusion.Given as goal

abbrev pub invariant-loop-number : goal.invariant-loop-number
invariant-loop-number l = AreMet IsInclusion l.instance l.schema.rules l.number
