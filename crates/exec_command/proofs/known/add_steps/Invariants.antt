use Rattle.std.proofs.Common.{◌≡◌, ◌++◌, take, flat_map}
use Rattle.exec_command.specs.Known.{constants_of_step}
use Rattle.exec_command.proofs.known.add_steps.Given as goal

abbrev pub invariant-loop-step : goal.invariant-loop-step
invariant-loop-step l = l.texts.items ≡ l.fn.texts.items ++ flat_map constants_of_step (take l.step-index l.steps)
