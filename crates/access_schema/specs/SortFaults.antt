-- What is wrong with the sorts of a part.
use Rattle.std.specs.Prelude.{◌⊎◌, ◌++◌, ℕ, List, Option, Some, None, Bool, true, false, IsTrue, Contains, slice_get, flat_map}
use Rattle.std.specs.List.{zip, list_any}
use Rattle.meaning.specs.declared.types.Relation.{Relation}
use Rattle.meaning.specs.declared.types.Sort.{Sort}
use Rattle.meaning.specs.declared.types.Sort.TheVariants.{Text, Int}
use Rattle.meaning.specs.Integers.{IsInteger}
use Rattle.access_schema.specs.declared.part.Part.{Part}
use Rattle.access_schema.specs.declared.part.Part.TheVariants.{Rule as RulePart, ForeignKey as KeyPart}
use Rattle.access_schema.specs.declared.part.NamedAtom.{NamedAtom}
use Rattle.access_schema.specs.declared.part.NamedTerm.{NamedTerm}
use Rattle.access_schema.specs.declared.part.NamedTerm.TheVariants.{Var as NamedVar, Const as NamedConst}
use Rattle.access_schema.specs.declared.collect.Wanted.{Wanted}
use Rattle.access_schema.specs.Wanted.{text_of}
use Rattle.access_schema.specs.Lists.{place_of}
use Rattle.access_schema.specs.Content.{columns_of, sorts_of}

-- the terms of atoms, each with the sort of its column; nothing where the relation or the column is not there
abbrev pub sorted_terms : List Relation → List NamedAtom → List (NamedTerm × Sort)
sorted_terms relations atoms = flat_map (λ atom. zip atom.terms (sorts_of relations atom.relation)) atoms

-- a variable stands at an integer column and at a column of texts
abbrev pub HasTwoSorts : List (NamedTerm × Sort) → Type 0
HasTwoSorts terms = (name : List ℕ) × Contains terms (NamedVar name, Int) × Contains terms (NamedVar name, Text)

-- a constant at an integer column is no integer
abbrev pub HasOtherConstant : List (NamedTerm × Sort) → Type 0
HasOtherConstant terms = (c : List ℕ) × Contains terms (NamedConst c, Int) × (IsInteger c → ⊥)

-- the sort of the relation's column of that name
abbrev pub sort_at : List Relation → List ℕ → List ℕ → Option Sort
sort_at relations name column = slice_get (sorts_of relations name) (place_of (columns_of relations name) column)

-- whether these are two sorts
abbrev pub are_two : Option Sort → Option Sort → Bool
are_two (Some Int) (Some Text) = true
are_two (Some Text) (Some Int) = true
are_two _ _ = false

-- whether a column of a foreign key and the one that it is paired with have two sorts
abbrev pub pairs_two_sorts : List Relation → List ℕ → List (List ℕ) → List ℕ → List (List ℕ) → Bool
pairs_two_sorts relations relation columns target target_columns =
    list_any (λ pair. are_two (sort_at relations relation pair.0) (sort_at relations target pair.1)) (zip columns target_columns)

-- the rule has a variable or a constant where it may not stand, or the foreign key pairs columns of two sorts
abbrev pub HasWrongSort : List Relation → Part → Type 0
HasWrongSort relations (RulePart line body head) = HasTwoSorts (sorted_terms relations (body ++ head)) ⊎ HasOtherConstant (sorted_terms relations (body ++ head))
HasWrongSort relations (KeyPart line relation columns target target_columns) = IsTrue (pairs_two_sorts relations relation columns target target_columns)
HasWrongSort relations _ = ⊥

-- the text of a term where it is wanted, at a column of that sort
abbrev pub text_at : Wanted → Sort → NamedTerm × Sort → Option (List ℕ)
text_at wanted Int (term, Int) = text_of wanted term
text_at wanted Text (term, Text) = text_of wanted term
text_at wanted _ _ = None
