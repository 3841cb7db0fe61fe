-- Matches of queries with given head values.
use Rattle.std.specs.Prelude.{◌≡◌, ℕ, ◌≤◌, List, map, length, slice_get, Some}
use Rattle.meaning.specs.declared.types.Query.{Query}
use Rattle.meaning.specs.declared.types.Ground.{Ground}
use Rattle.meaning.specs.declared.types.Val.{Val}
use Rattle.meaning.specs.declared.types.Val.TheVariants.{Const}
use Rattle.meaning.specs.Matching.{value_of, AreFacts, GroundsOf}
use Rattle.meaning.specs.Triggers.{terms_bound, bound}
use Rattle.homomorphism.specs.Bindings.{at}

-- The variables of a query are counted.
pub record IsCounted (query : Query) : Type 0 where
  pub atoms : bound query.atoms ≤ query.variables
  pub head : terms_bound query.head ≤ query.variables

-- The values have one for each variable, make the atoms facts, and give the head these values.
pub record IsHeadMatch (facts : List Ground) (query : Query) (head values : List Val) : Type 0 where
  pub width : length values ≡ query.variables
  pub facts_are : AreFacts Const (GroundsOf facts) (at values) query.atoms
  pub head_is : head ≡ map (value_of Const (at values)) query.head

-- The query of that number has such a match.
abbrev pub IsGoal : List Query → List Ground → List Val → ℕ → List Val → Type 0
IsGoal queries facts head number values = (query : Query) × (slice_get queries number ≡ Some query) × IsHeadMatch facts query head values
