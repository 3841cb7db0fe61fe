use Rattle.std.proofs.Common.{◌≡◌, [], take}
use Rattle.std.specs.Prelude.{map, slice_index_or}
use Rattle.tgd_reader.proofs.print.names_at.Given as goal

abbrev pub invariant-loop-place : goal.invariant-loop-place
invariant-loop-place l = l.names ≡ map (λ place. slice_index_or l.columns place []) (take l.place-index l.places)
