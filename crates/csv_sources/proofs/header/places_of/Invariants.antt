use Rattle.std.proofs.Common.{◌≡◌, map, take}
use Rattle.csv.specs.Records.{fields_of}
use Rattle.csv_sources.specs.DataFile.{place_in}
use Rattle.csv_sources.proofs.header.places_of.Given as goal

abbrev pub invariant-loop-name : goal.invariant-loop-name
invariant-loop-name l = l.places.items ≡ map (place_in (fields_of l.header)) (take l.name-index l.columns)
