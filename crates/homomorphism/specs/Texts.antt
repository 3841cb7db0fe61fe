-- Texts of labelled values, and rows of terms under values.
use Rattle.std.specs.Prelude.{ℕ, List, [], map}
use Rattle.meaning.specs.declared.types.Term.{Term}
use Rattle.meaning.specs.declared.types.Val.{Val}
use Rattle.meaning.specs.Values.{Value, Row}
use Rattle.meaning.specs.Matching.{value_of, itself}
use Rattle.meaning.specs.Homomorphisms.{image}
use Rattle.homomorphism.specs.Bindings.{at}

-- Each label has the empty text.
abbrev pub blank : ℕ → Value
blank k = []

-- The text of a variable is that of its value, and the empty text where it has none.
abbrev pub text_at : List Val → ℕ → Value
text_at values x = image blank (at values x)

-- The row of terms under values has a constant as itself, and a variable as its text.
abbrev pub row_of : List Term → List Val → Row
row_of terms values = map (value_of itself (text_at values)) terms
