-- Maps of labels to values that carry labelled facts into an instance
-- (Fagin, Kolaitis, Miller and Popa 2005, homomorphisms).
use Rattle.std.specs.Prelude.{ℕ, List, Contains, map}
use Rattle.meaning.specs.declared.types.Fact.{Fact}
use Rattle.meaning.specs.declared.types.Val.{Val}
use Rattle.meaning.specs.declared.types.Ground.{Ground}
use Rattle.meaning.specs.declared.types.Val.TheVariants.{Const, Label}
use Rattle.meaning.specs.Values.{Value}

-- The image of a label is the map's value, and the image of a constant is the constant.
abbrev pub image : (ℕ → Value) → Val → Value
image h (Const c) = c
image h (Label k) = h k

-- The image of a labelled fact.
abbrev pub fact_of : (ℕ → Value) → Ground → Fact
fact_of h fact = record { rel = fact.rel; row = map (image h) fact.vals }

-- The instance of the images of labelled facts.
abbrev pub renamed : (ℕ → Value) → List Ground → List Fact
renamed h facts = map (fact_of h) facts

-- A map carries labelled facts into an instance where the image of each is a fact of it.
abbrev pub Carries : (ℕ → Value) → List Ground → List Fact → Type 0
Carries h facts instance = (fact : Ground) → Contains facts fact → Contains instance (fact_of h fact)
