use Rattle.std.proofs.Common.{◌≡◌, ◌++◌, [], get_or, map, take}
use Rattle.csv.specs.Records.{fields_of}
use Rattle.csv_sources.proofs.data_file.push_texts.Given as goal

abbrev pub invariant-loop-place : goal.invariant-loop-place
invariant-loop-place l = fields_of l.values ≡ fields_of l.initial.values ++ map (λ p. get_or (fields_of l.row) p []) (take l.place-index l.places)
