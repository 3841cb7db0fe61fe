-- What parts declare: relations, methods, rules, constants and source lines, with numbers in place of names.
use Rattle.std.specs.Prelude.{◌≡◌, ℕ, ◌+◌, List, [], ◌∷◌, ◌++◌, Option, Some, None, map, length, flat_map, filter_map, slice_index_or, if◌then◌else◌}
use Rattle.std.specs.Prelude.{Bool, nat_eq}
use Rattle.std.specs.List.{range_with_len, list_any, position_or_len, find}
use Rattle.std.specs.Cmp.Lexicographic.{pointwise}
use Rattle.meaning.specs.declared.types.Relation.{Relation}
use Rattle.meaning.specs.declared.types.Sort.{Sort}
use Rattle.meaning.specs.declared.types.Method.{Method}
use Rattle.meaning.specs.declared.types.Rule.{Rule}
use Rattle.meaning.specs.declared.types.Atom.{Atom}
use Rattle.meaning.specs.declared.types.Term.{Term}
use Rattle.meaning.specs.declared.types.Term.TheVariants.{Var, Const}
use Rattle.access_schema.specs.declared.part.Part.{Part}
use Rattle.access_schema.specs.declared.part.Part.TheVariants.{Relation as RelationPart, Method as MethodPart, Rule as RulePart, ForeignKey as KeyPart, Constant as ConstantPart, Source as SourcePart}
use Rattle.access_schema.specs.declared.part.NamedAtom.{NamedAtom}
use Rattle.access_schema.specs.declared.part.NamedTerm.{NamedTerm}
use Rattle.access_schema.specs.declared.part.NamedTerm.TheVariants.{Var as NamedVar, Const as NamedConst}
use Rattle.access_schema.specs.declared.schema.SourceLine.{SourceLine}
use Rattle.access_schema.specs.declared.schema.Schema.{Schema}
use Rattle.access_schema.specs.Lists.{is_among, place_of, each_once}

abbrev pub relation_of : Part → Option Relation
relation_of (RelationPart name columns sorts) = Some (record { name = name; columns = columns; sorts = sorts })
relation_of _ = None

-- the declared relations, in order
abbrev pub relations_of : List Part → List Relation
relations_of parts = filter_map relation_of parts

-- whether the relation has that name
abbrev pub is_named : List ℕ → Relation → Bool
is_named name relation = pointwise nat_eq relation.name name

-- whether a relation has that name
abbrev pub is_declared : List Relation → List ℕ → Bool
is_declared relations name = list_any (is_named name) relations

-- the number of the first relation of that name
abbrev pub number_of : List Relation → List ℕ → ℕ
number_of relations name = position_or_len (is_named name) relations

abbrev pub columns_in : Option Relation → List (List ℕ)
columns_in None = []
columns_in (Some relation) = relation.columns

-- the columns of the first relation of that name, and none where there is no such relation
abbrev pub columns_of : List Relation → List ℕ → List (List ℕ)
columns_of relations name = columns_in (find (is_named name) relations)

abbrev pub sorts_in : Option Relation → List Sort
sorts_in None = []
sorts_in (Some relation) = relation.sorts

-- the sorts of the columns of the first relation of that name, and none where there is no such relation
abbrev pub sorts_of : List Relation → List ℕ → List Sort
sorts_of relations name = sorts_in (find (is_named name) relations)

-- the places, counted from a number on, of the columns that are among the names
abbrev pub places_from : ℕ → List (List ℕ) → List (List ℕ) → List ℕ
places_from place names [] = []
places_from place names (column ∷ columns) = if is_among names column then (place ∷ places_from (place + 1) names columns) else places_from (place + 1) names columns

-- a method has its input columns as ascending places
abbrev pub method_of : List Relation → Part → Option Method
method_of relations (MethodPart name relation inputs cost) =
    Some (record { name = name; rel = number_of relations relation; inputs = places_from 0 inputs (columns_of relations relation); cost = cost })
method_of relations _ = None

-- the declared methods, in order
abbrev pub methods_of : List Relation → List Part → List Method
methods_of relations parts = filter_map (method_of relations) parts

abbrev pub variable_of : NamedTerm → Option (List ℕ)
variable_of (NamedVar name) = Some name
variable_of (NamedConst text) = None

abbrev pub constant_of : NamedTerm → Option (List ℕ)
constant_of (NamedVar name) = None
constant_of (NamedConst text) = Some text

-- the terms of the atoms, in order
abbrev pub named_terms : List NamedAtom → List NamedTerm
named_terms atoms = flat_map (λ atom. atom.terms) atoms

-- the names of the variables of the atoms, each once, by first occurrence
abbrev pub variables_of : List NamedAtom → List (List ℕ)
variables_of atoms = each_once (filter_map variable_of (named_terms atoms))

-- a variable is the place of its name among the variables
abbrev pub term_of : List (List ℕ) → NamedTerm → Term
term_of variables (NamedVar name) = Var (place_of variables name)
term_of variables (NamedConst text) = Const text

abbrev pub atom_of : List Relation → List (List ℕ) → NamedAtom → Atom
atom_of relations variables atom = record { rel = number_of relations atom.relation; terms = map (term_of variables) atom.terms }

-- a rule with its relations and variables numbered, the variables through the body and then the head
abbrev pub numbered_rule : List Relation → ℕ → List NamedAtom → List NamedAtom → Rule
numbered_rule relations line body head =
    record { line = line; body = map (atom_of relations (variables_of (body ++ head))) body; head = map (atom_of relations (variables_of (body ++ head))) head }

-- the variable at a column of a foreign key's target: that of the matching column where it is listed, and the next one elsewhere
abbrev pub key_number : List (List ℕ) → List (List ℕ) → List (List ℕ) → ℕ → List ℕ → ℕ
key_number own columns target_columns next column =
    if is_among target_columns column then place_of own (slice_index_or columns (place_of target_columns column) []) else next

abbrev pub next_number : List (List ℕ) → ℕ → List ℕ → ℕ
next_number target_columns next column = if is_among target_columns column then next else (next + 1)

-- the terms of a foreign key's target, from a next variable on
abbrev pub key_terms : List (List ℕ) → List (List ℕ) → List (List ℕ) → ℕ → List (List ℕ) → List Term
key_terms own columns target_columns next [] = []
key_terms own columns target_columns next (column ∷ rest) =
    Var (key_number own columns target_columns next column) ∷ key_terms own columns target_columns (next_number target_columns next column) rest

-- a foreign key as a rule: the relation with distinct variables, and then the target
abbrev pub key_rule : List Relation → ℕ → List ℕ → List (List ℕ) → List ℕ → List (List ℕ) → Rule
key_rule relations line relation columns target target_columns =
    let own = columns_of relations relation in
    record {
      line = line;
      body = record { rel = number_of relations relation; terms = map Var (range_with_len 0 (length own)) } ∷ [];
      head = record { rel = number_of relations target; terms = key_terms own columns target_columns (length own) (columns_of relations target) } ∷ [];
    }

abbrev pub rule_of : List Relation → Part → Option Rule
rule_of relations (RulePart line body head) = Some (numbered_rule relations line body head)
rule_of relations (KeyPart line relation columns target target_columns) = Some (key_rule relations line relation columns target target_columns)
rule_of relations _ = None

-- the rules and the foreign keys, in order
abbrev pub rules_of : List Relation → List Part → List Rule
rules_of relations parts = filter_map (rule_of relations) parts

abbrev pub declared_constants : Part → List (List ℕ)
declared_constants (ConstantPart text) = text ∷ []
declared_constants _ = []

abbrev pub rule_constants : Part → List (List ℕ)
rule_constants (RulePart line body head) = filter_map constant_of (named_terms (body ++ head))
rule_constants _ = []

-- the constants of a constant part or a rule
abbrev pub part_constants : Part → List (List ℕ)
part_constants (ConstantPart text) = text ∷ []
part_constants (RulePart line body head) = filter_map constant_of (named_terms (body ++ head))
part_constants _ = []

-- each constant once: first those of the constant parts, then those of the rules
abbrev pub constants_of : List Part → List (List ℕ)
constants_of parts = each_once (flat_map declared_constants parts ++ flat_map rule_constants parts)

abbrev pub source_of : List Relation → Part → Option SourceLine
source_of relations (SourcePart relation kind locator) = Some (record { rel = number_of relations relation; kind = kind; locator = locator })
source_of relations _ = None

-- the source lines, in order
abbrev pub sources_of : List Relation → List Part → List SourceLine
sources_of relations parts = filter_map (source_of relations) parts

-- the schema has exactly what the parts declare
pub record Builds (parts : List Part) (schema : Schema) : Type 0 where
  pub relations : schema.relations ≡ relations_of parts
  pub methods : schema.methods ≡ methods_of (relations_of parts) parts
  pub rules : schema.rules ≡ rules_of (relations_of parts) parts
  pub constants : schema.constants ≡ constants_of parts
  pub sources : schema.sources ≡ sources_of (relations_of parts) parts
