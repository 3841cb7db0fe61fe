use Rattle.std.proofs.Common.{◌≡◌, ◌++◌, [], get_or, map, take}
use Rattle.csv.specs.Records.{fields_of, partial_of}
use Rattle.csv_sources.proofs.plain.push_slices.Given as goal

abbrev pub invariant-loop-place : goal.invariant-loop-place
invariant-loop-place l = record {
  added : fields_of l.values ≡ fields_of l.initial.values ++ map (λ p. get_or (map (λ f. f.now) l.fields) p []) (take l.place-index l.places);
  whole : partial_of l.values ≡ [];
}
