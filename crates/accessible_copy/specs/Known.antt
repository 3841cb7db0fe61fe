-- Known values.
use Rattle.std.specs.Prelude.{ℕ, List, ◌++◌, map, flat_map}
use Rattle.std.specs.List.{zip}
use Rattle.meaning.specs.declared.types.Val.{Val}
use Rattle.meaning.specs.declared.types.Ground.{Ground}
use Rattle.meaning.specs.declared.types.Val.TheVariants.{Const}
use Rattle.meaning.specs.Values.{Value}
use Rattle.accessible_copy.specs.declared.entry.Exposed.{Exposed}

-- The facts alone.
abbrev pub facts_of : List Exposed → List Ground
facts_of exposed = map (λ (one : Exposed). one.fact) exposed

-- The facts with the methods that stand beside them.
abbrev pub shown_by : List ℕ → List Ground → List Exposed
shown_by methods facts = map (λ (one : ℕ × Ground). record { method = one.0; fact = one.1 }) (zip methods facts)

-- The known values are the constants, and then the values of the exposed facts in order.
abbrev pub known_values : List Value → List Ground → List Val
known_values constants exposed = map Const constants ++ flat_map (λ (fact : Ground). fact.vals) exposed

-- Constants, and exposed facts with their methods.
pub record Showing : Type 0 where
  pub constants : List Value
  pub exposed : List Exposed
