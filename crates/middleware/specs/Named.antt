-- One place more of a table.
use Rattle.std.specs.Prelude.{◌≡◌, ℕ, List, [], ◌∷◌, ◌++◌}
use Rattle.meaning.specs.declared.types.Place.{Place}
use Rattle.meaning.specs.Plans.{made}
use Rattle.middleware.specs.Naming.{IsLocal}
use Rattle.middleware.specs.declared.naming.Named.{Named}

-- the table has one place more, for this place, whatever places follow
pub record NamesOne (place : Place) (old new : Named) : Type 0 where
  pub local : Place
  pub places_are : new.places ≡ old.places ++ local ∷ []
  pub goes_on : (places locals : List Place) (after : List ℕ) → IsLocal new.columns new.count places locals after
      → IsLocal old.columns old.count (place ∷ places) (local ∷ locals) after
  pub count : (places : List Place) → made old.count (place ∷ places) ≡ made new.count places

-- one place more, which is this one, with these columns then
pub record AddsLocal (local : Place) (columns : List ℕ) (old new : Named) : Type 0 where
  pub places_are : new.places ≡ old.places ++ local ∷ []
  pub columns_are : new.columns ≡ columns
  pub count_is : new.count ≡ old.count
