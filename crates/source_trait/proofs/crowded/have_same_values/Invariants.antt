use Rattle.std.proofs.Common.{◌≡◌, take}
use Rattle.source_trait.specs.Index.{row_values}
use Rattle.source_trait.proofs.crowded.have_same_values.Given as goal

abbrev pub invariant-loop-position : goal.invariant-loop-position
invariant-loop-position l = row_values (take l.position-index l.positions) l.row ≡ row_values (take l.position-index l.positions) l.other
