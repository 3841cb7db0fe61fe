use Rattle.std.proofs.Common.{take}
use Rattle.middleware.specs.Naming.{AreAsked}
use Rattle.middleware.proofs.by_request.input_columns.Given as goal

abbrev pub invariant-loop-input : goal.invariant-loop-input
invariant-loop-input l = AreAsked l.columns.items l.places (take l.input-index l.inputs)
