-- The facts of an instance as labelled facts.
use Rattle.std.specs.Prelude.{◌↔◌, ℕ, List, Contains, map}
use Rattle.meaning.specs.declared.types.Fact.{Fact}
use Rattle.meaning.specs.declared.types.Ground.{Ground}
use Rattle.meaning.specs.declared.types.Val.TheVariants.{Const}
use Rattle.meaning.specs.Values.{Row}

-- A fact of texts as a labelled fact, each text as a constant.
abbrev pub ground_of : Fact → Ground
ground_of fact = record { rel = fact.rel; vals = map Const fact.row }

-- The labelled facts are exactly those of the instance.
abbrev pub AreFactsOf : List Fact → List Ground → Type 0
AreFactsOf instance facts = (fact : Ground) → Contains facts fact ↔ Contains (map ground_of instance) fact

-- A fact as its relation with its row.
abbrev pub pair_of : Fact → ℕ × Row
pair_of fact = (fact.rel, fact.row)

-- A relation with a row as a labelled fact.
abbrev pub ground_pair : ℕ × Row → Ground
ground_pair (rel, row) = record { rel = rel; vals = map Const row }
