-- A round whose answer is itself what the partial rows grow to.
use Rattle.std.specs.Prelude.{◌≡◌, List, [], ◌∷◌, length}
use Rattle.std.specs.List.{AllByRecursion}
use Rattle.meaning.specs.declared.types.Place.{Place}
use Rattle.meaning.specs.declared.types.Place.TheVariants.{New}
use Rattle.source_trait.specs.Asking.{HaveArity, RowList}

-- each place makes a new column
abbrev pub AreNew : List Place → Type 0
AreNew places = AllByRecursion (λ place. place ≡ New) places

-- the only partial row has no column yet, each place makes one, and each row of the only answer has a value for each
pub record GrowsToAnswer (places : List Place) (answers : List RowList) (rows : RowList) : Type 0 where
  pub answer : RowList
  pub only : answers ≡ answer ∷ []
  pub first : rows ≡ [] ∷ []
  pub new : AreNew places
  pub fit : HaveArity (length places) answer
