use Rattle.std.proofs.Common.{take}
use Rattle.no_plan_witness.specs.Gathering.{KnowsInputs}
use Rattle.no_plan_witness.proofs.accessible.knows_inputs.Given as goal

-- the values at the inputs so far are known
abbrev pub invariant-loop-input : goal.invariant-loop-input
invariant-loop-input l = KnowsInputs l.constants l.earlier l.row (take l.input-index l.inputs)
