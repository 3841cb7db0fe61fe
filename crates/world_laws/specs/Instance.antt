-- The instance that the generator gives for a world.
use Rattle.std.specs.Prelude.{◌-◌, ℕ, List, map, flat_map}
use Rattle.std.specs.List.{range_with_len}
use Rattle.meaning.specs.declared.types.Fact.{Fact}
use Rattle.world_source.specs.Formulas.{rows_of}

-- the rows of the formula of a relation, as facts
abbrev pub facts_of : ℕ → ℕ → List Fact
facts_of n k = map (λ row. record { rel = k - 1; row = row }) (rows_of k n)

-- the facts of the eight relations, of so many rows each
abbrev pub world_facts : ℕ → List Fact
world_facts n = flat_map (facts_of n) (range_with_len 1 8)
