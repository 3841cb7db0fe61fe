-- The live ones of some columns.
use Rattle.std.specs.Prelude.{◌≡◌, ℕ, List, [], ◌∷◌, ◌++◌, Contains, map, slice_get, Some, Bool, true}
use Rattle.middleware.specs.Naming.{Texts}
use Rattle.middleware.specs.Parts.{key_of}
use Rattle.middleware.specs.declared.live.Kept.{Kept}

-- Columns of a table, among them each live one of those that were looked at, and where the table has them.
pub record KeepsLive (live : ℕ → Bool) (columns looked : List ℕ) (kept : Kept) : Type 0 where
  pub within : (k : ℕ) → Contains kept.columns k → Contains columns k
  pub keeps : (k : ℕ) → live k ≡ true → Contains looked k → Contains kept.columns k
  pub reads : (texts : Texts) → key_of kept.places.items (map texts columns) ≡ map texts kept.columns

-- the column of this number was kept
pub record AddsKept (column number : ℕ) (old new : Kept) : Type 0 where
  pub columns_are : new.columns ≡ old.columns ++ column ∷ []
  pub places_are : new.places.items ≡ old.places.items ++ number ∷ []

-- the column of this number was looked at, of whatever columns
pub record KeepsOne (live : ℕ → Bool) (column number : ℕ) (old new : Kept) : Type 0 where
  pub goes_on : (columns looked after : List ℕ) → slice_get columns number ≡ Some column → after ≡ looked ++ column ∷ []
      → KeepsLive live columns looked old → KeepsLive live columns after new
