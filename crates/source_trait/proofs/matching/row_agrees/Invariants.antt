use Rattle.std.proofs.Common.{◌≡◌, length}
use Rattle.source_trait.specs.Asking.{agrees}
use Rattle.source_trait.proofs.matching.row_agrees.Given as goal

abbrev pub invariant-loop-places : goal.invariant-loop-places
invariant-loop-places l = agrees l.positions l.values l.row ≡ agrees l.places l.wanted l.row

abbrev pub decreases-loop-places : goal.decreases-loop-places
decreases-loop-places l = length l.places
