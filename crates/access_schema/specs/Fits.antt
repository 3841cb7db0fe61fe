-- What parts without faults keep, as far as numbers are to be made of their names.
use Rattle.std.specs.Prelude.{◌≡◌, ◌≤◌, ℕ, List, [], ◌∷◌, ◌++◌, length}
use Rattle.meaning.specs.declared.types.Relation.{Relation}
use Rattle.access_schema.specs.declared.part.Part.{Part}
use Rattle.access_schema.specs.declared.part.Part.TheVariants.{Method as MethodPart, Rule as RulePart, ForeignKey as KeyPart}
use Rattle.access_schema.specs.declared.limits.TheConstants.{MOST_RELATIONS, MOST_COLUMNS, MOST_VARIABLES, MOST_COST}
use Rattle.access_schema.specs.Content.{variables_of, columns_of}

-- the counts of the part are within the limits, and the lists of a foreign key are equally long
abbrev pub IsWithin : Part → Type 0
IsWithin (MethodPart name relation inputs cost) = cost ≤ MOST_COST
IsWithin (RulePart line body head) = length (variables_of (body ++ head)) ≤ MOST_VARIABLES
IsWithin (KeyPart line relation columns target target_columns) = length columns ≡ length target_columns
IsWithin _ = Unit {0}

-- those of each part are
abbrev pub AreWithin : List Part → Type 0
AreWithin [] = Unit {0}
AreWithin (part ∷ parts) = IsWithin part × AreWithin parts

-- there are few relations with few columns
pub record AreSmall (relations : List Relation) : Type 0 where
  pub few : length relations ≤ MOST_RELATIONS
  pub columns : (name : List ℕ) → length (columns_of relations name) ≤ MOST_COLUMNS
