-- Texts for labels: in ascending order, each label that stands at an integer column takes the next of `1`, `2`, `3` and so on that is no
-- constant, and each other label that occurs the next of `_1`, `_2`, `_3` and so on.
use Rattle.std.specs.Prelude.{◌≡◌, ◌⊎◌, ◌↔◌, ℕ, ◌<◌, ◌≤◌, ◌^◌, List, [], ◌∷◌, ◌++◌, Contains, Some, map, flat_map, length, nat_eq, slice_get, codes, if◌then◌else◌}
use Rattle.std.specs.List.Sorted.{IsStrictlyIncreasing}
use Rattle.std.specs.Fmt.{decimal}
use Rattle.meaning.specs.declared.types.Val.{Val}
use Rattle.meaning.specs.declared.types.Ground.{Ground}
use Rattle.meaning.specs.declared.types.SchemaParts.{SchemaParts}
use Rattle.meaning.specs.declared.types.Sort.{Sort}
use Rattle.meaning.specs.declared.types.Sort.TheVariants.{Text, Int}
use Rattle.meaning.specs.declared.types.Val.TheVariants.{Const, Label}
use Rattle.meaning.specs.Sorts.{HoldsIntegers}
use Rattle.meaning.specs.Values.{Value}

-- The labels that occur in a value, in values and in facts, with repetitions.
abbrev pub labels_of : Val → List ℕ
labels_of (Const c) = []
labels_of (Label k) = k ∷ []

abbrev pub labels_among : List Val → List ℕ
labels_among vals = flat_map labels_of vals

abbrev pub labels_in : List Ground → List ℕ
labels_in facts = flat_map (λ (fact : Ground). labels_among fact.vals) facts

-- A label stands for an integer where it stands at an integer column of one of the facts.
abbrev pub StandsForInteger : SchemaParts → List Ground → ℕ → Type 0
StandsForInteger schema facts k =
    (fact : Ground) × (place : ℕ) × Contains facts fact × HoldsIntegers schema fact.rel place × (slice_get fact.vals place ≡ Some (Label k))

-- A label stands for a text where it occurs and stands for no integer.
abbrev pub StandsForText : SchemaParts → List Ground → ℕ → Type 0
StandsForText schema facts k = Contains (labels_in facts) k × (StandsForInteger schema facts k → ⊥)

-- The text with a number: `_1`, `_2`, `_3` and so on, and as an integer `1`, `2`, `3` and so on.
abbrev pub numbered_text : Sort → ℕ → Value
numbered_text Text number = codes "_" ++ decimal number
numbered_text Int number = decimal number

-- Texts are the first free ones where they are those of ascending numbers from 1 on, none is a constant, and each number
-- that is passed over has a constant's text. Numbers have at most 63 bits, so that two of them have two texts and each is an integer.
pub record AreFirstFree (sort : Sort) (constants : List Value) (texts : List Value) : Type 0 where
  pub numbers : List ℕ
  pub texts_are : texts ≡ map (numbered_text sort) numbers
  pub ascend : IsStrictlyIncreasing numbers
  pub counted : (number : ℕ) → Contains numbers number → (1 ≤ number) × (number < 2 ^ 63)
  pub free : (number : ℕ) → Contains numbers number → Contains constants (numbered_text sort number) → ⊥
  pub passed : (other number : ℕ) → 1 ≤ other → other < number → Contains numbers number →
      Contains numbers other ⊎ Contains constants (numbered_text sort other)

-- Labels, and a text for each, in order.
pub record Column : Type 0 where
  pub labels : List ℕ
  pub texts : List Value

-- A column has exactly these labels, in ascending order, with the first free texts of the sort.
pub record IsColumnOf (IsOne : ℕ → Type 0) (sort : Sort) (constants : List Value) (column : Column) : Type 0 where
  pub ascend : IsStrictlyIncreasing column.labels
  pub exactly : (k : ℕ) → Contains column.labels k ↔ IsOne k
  pub texts_are : AreFirstFree sort constants column.texts
  pub as_many : length column.texts ≡ length column.labels

-- Names are those of labels that stand for integers, and of those that stand for texts.
pub record Names : Type 0 where
  pub integers : Column
  pub others : Column

-- The text of a label is the one at the label's place, and for a label that is not among them another text.
abbrev pub text_of : List ℕ → List Value → Value → ℕ → Value
text_of [] texts other k = other
text_of (label ∷ labels) [] other k = other
text_of (label ∷ labels) (text ∷ texts) other k = if nat_eq label k then text else text_of labels texts other k

-- The text of a label in a column.
abbrev pub text_in : Column → Value → ℕ → Value
text_in column other k = text_of column.labels column.texts other k

-- The text of a label under names. A label that has none has the empty text.
abbrev pub text_under : Names → ℕ → Value
text_under names k = text_in names.integers (text_in names.others [] k) k

-- Names are those for facts where the labels that stand for integers, and those that stand for texts, have the first free ones.
pub record AreNamesFor (schema : SchemaParts) (constants : List Value) (facts : List Ground) (names : Names) : Type 0 where
  pub integers_are : IsColumnOf (StandsForInteger schema facts) Int constants names.integers
  pub others_are : IsColumnOf (StandsForText schema facts) Text constants names.others
