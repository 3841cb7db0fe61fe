use Rattle.std.proofs.Common.{◌≡◌, map, take}
use Rattle.meaning.specs.declared.types.Place.TheVariants.{Col}
use Rattle.middleware.proofs.naming.column_places.Given as goal

abbrev pub invariant-loop-column : goal.invariant-loop-column
invariant-loop-column l = l.places ≡ map Col (take l.column-index l.columns)
