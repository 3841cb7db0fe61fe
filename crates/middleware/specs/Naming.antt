-- Tables over some of the columns of the partial rows, and the places of a step as those of a table.
use Rattle.std.specs.Prelude.{◌≡◌, ◌<◌, ◌+◌, ℕ, List, [], ◌∷◌, ◌++◌, Contains, map, slice_get, Option, Some, None}
use Rattle.meaning.specs.declared.types.Place.{Place}
use Rattle.meaning.specs.declared.types.Place.TheVariants.{Const, Col, New}
use Rattle.source_trait.specs.Asking.{RowList}

-- a text for each column
abbrev pub Texts : Type 0
Texts = ℕ → List ℕ

-- the table has a row with the texts at its columns
abbrev pub Fits : Texts → List ℕ → RowList → Type 0
Fits texts columns rows = Contains rows (map texts columns)

-- each row of the table is of texts at its columns
abbrev pub AreOfTexts : List ℕ → RowList → Type 0
AreOfTexts columns rows = (row : List (List ℕ)) → Contains rows row → (texts : Texts) × (row ≡ map texts columns)

-- each place names a column that there is by then, where there are so many before
abbrev pub AreNamed : ℕ → List Place → Type 0
AreNamed n [] = Unit {0}
AreNamed n (Const c ∷ places) = AreNamed n places
AreNamed n (Col k ∷ places) = (k < n) × AreNamed n places
AreNamed n (New ∷ places) = AreNamed (n + 1) places

-- The places of a table with these columns for the places of a step, and the columns that the table then has: a column that it lacks
-- is a new one of the table. There are n columns of the partial rows by then.
abbrev pub IsLocal : List ℕ → ℕ → List Place → List Place → List ℕ → Type 0
IsLocal columns n [] [] after = after ≡ columns
IsLocal columns n (Const c ∷ places) (Const d ∷ locals) after = (d ≡ c) × IsLocal columns n places locals after
IsLocal columns n (Col k ∷ places) (Col i ∷ locals) after = (slice_get columns i ≡ Some k) × IsLocal columns n places locals after
IsLocal columns n (Col k ∷ places) (New ∷ locals) after = (Contains columns k → ⊥) × IsLocal (columns ++ k ∷ []) n places locals after
IsLocal columns n (New ∷ places) (New ∷ locals) after = IsLocal (columns ++ n ∷ []) (n + 1) places locals after
IsLocal columns n places locals after = ⊥

-- a fact's values are the texts at the columns that the places name or make
abbrev pub Matches : Texts → ℕ → List Place → List (List ℕ) → Type 0
Matches texts n [] [] = Unit {0}
Matches texts n (Const c ∷ places) (value ∷ values) = (value ≡ c) × Matches texts n places values
Matches texts n (Col k ∷ places) (value ∷ values) = (value ≡ texts k) × Matches texts n places values
Matches texts n (New ∷ places) (value ∷ values) = (value ≡ texts n) × Matches texts (n + 1) places values
Matches texts n places values = ⊥

-- the text at an input place
abbrev pub text_of : Texts → Option Place → List ℕ
text_of texts None = []
text_of texts (Some (Const c)) = c
text_of texts (Some (Col k)) = texts k
text_of texts (Some New) = []

-- the texts at the input positions
abbrev pub inputs_of : Texts → List Place → List ℕ → List (List ℕ)
inputs_of texts places inputs = map (λ p. text_of texts (slice_get places p)) inputs

-- among the columns is each that an input place names
abbrev pub AreAsked : List ℕ → List Place → List ℕ → Type 0
AreAsked columns places inputs = (p k : ℕ) → Contains inputs p → slice_get places p ≡ Some (Col k) → Contains columns k

-- among the columns are those that there were, and that of an input place
pub record AddsAsked (place : Option Place) (old new : List ℕ) : Type 0 where
  pub keeps : (k : ℕ) → Contains old k → Contains new k
  pub has : (k : ℕ) → place ≡ Some (Col k) → Contains new k
