use Rattle.std.proofs.Common.{◌≡◌, ◌++◌, take, flat_map}
use Rattle.exec_command.specs.Known.{constant_in}
use Rattle.exec_command.proofs.known.add_places.Given as goal

abbrev pub invariant-loop-place : goal.invariant-loop-place
invariant-loop-place l = l.texts.items ≡ l.fn.texts.items ++ flat_map constant_in (take l.place-index l.places)
