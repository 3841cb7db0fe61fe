-- What is wrong with a part, and the first faulty part with its least fault.
use Rattle.std.specs.Prelude.{◌≡◌, ℕ, ◌<◌, ◌≤◌, List, [], ◌∷◌, ◌++◌, Option, Some, None, option_map, Bool, true, false, ◌||◌, not, ◌==◌, nat_lt, nat_le, IsTrue, length, take, slice_get, flat_map, filter, if◌then◌else◌}
use Rattle.std.specs.List.{list_any}
use Rattle.std.specs.Cmp.Lexicographic.{pointwise}
use Rattle.std.specs.Prelude.{nat_eq, ◌≢◌, Contains}
use Rattle.meaning.specs.declared.types.Relation.{Relation}
use Rattle.access_schema.specs.declared.part.Part.{Part}
use Rattle.access_schema.specs.declared.part.Part.TheVariants.{Relation as RelationPart, Method as MethodPart, Rule as RulePart, ForeignKey as KeyPart, Constant as ConstantPart, Source as SourcePart}
use Rattle.access_schema.specs.declared.part.NamedAtom.{NamedAtom}
use Rattle.access_schema.specs.declared.fault.Limit.{Limit}
use Rattle.access_schema.specs.declared.fault.Limit.TheVariants.{Relations, Methods, Rules, Columns, BodyAtoms, HeadAtoms, Variables, Cost, Constants}
use Rattle.access_schema.specs.declared.fault.BuildFault.{BuildFault}
use Rattle.access_schema.specs.declared.fault.BuildFault.TheVariants.{NoMemory, At}
use Rattle.access_schema.specs.declared.fault.SchemaFault.{SchemaFault}
use Rattle.access_schema.specs.declared.fault.SchemaFault.TheVariants.{DuplicateName, UnknownRelation, WrongArity, UnknownColumn, OverLimit, Recursive, WrongSort}
use Rattle.access_schema.specs.declared.limits.TheConstants.{MOST_RELATIONS, MOST_METHODS, MOST_RULES, MOST_COLUMNS, MOST_BODY_ATOMS, MOST_HEAD_ATOMS, MOST_VARIABLES, MOST_COST, MOST_CONSTANTS}
use Rattle.access_schema.specs.Lists.{is_among, repeats, each_once}
use Rattle.access_schema.specs.Content.{relations_of, is_declared, columns_of, variables_of, part_constants, rules_of}
use Rattle.access_schema.specs.Feeding.{AreRecursive}
use Rattle.access_schema.specs.SortFaults.{HasWrongSort}

-- the kinds of parts, where rules and foreign keys are one kind
abbrev pub is_relation : Part → Bool
is_relation (RelationPart name columns sorts) = true
is_relation _ = false

abbrev pub is_method : Part → Bool
is_method (MethodPart name relation inputs cost) = true
is_method _ = false

abbrev pub is_rule : Part → Bool
is_rule (RulePart line body head) = true
is_rule (KeyPart line relation columns target target_columns) = true
is_rule _ = false

-- whether the part is a relation, a method, or a source of that name
abbrev pub is_relation_named : List ℕ → Part → Bool
is_relation_named name (RelationPart other columns sorts) = pointwise nat_eq other name
is_relation_named name _ = false

abbrev pub is_method_named : List ℕ → Part → Bool
is_method_named name (MethodPart other relation inputs cost) = pointwise nat_eq other name
is_method_named name _ = false

abbrev pub is_source_of : List ℕ → Part → Bool
is_source_of name (SourcePart relation kind locator) = pointwise nat_eq relation name
is_source_of name _ = false

-- an earlier part of the kind has the name, or has a source for the same relation, or a column stands twice in one list
abbrev pub repeats_name : List Part → Part → Bool
repeats_name earlier (RelationPart name columns sorts) = list_any (is_relation_named name) earlier || repeats columns
repeats_name earlier (MethodPart name relation inputs cost) = list_any (is_method_named name) earlier || repeats inputs
repeats_name earlier (RulePart line body head) = false
repeats_name earlier (KeyPart line relation columns target target_columns) = repeats columns || repeats target_columns
repeats_name earlier (ConstantPart text) = false
repeats_name earlier (SourcePart relation kind locator) = list_any (is_source_of relation) earlier

-- the relation name is declared by no part
abbrev pub is_unknown : List Relation → List ℕ → Bool
is_unknown relations name = not (is_declared relations name)

-- the part uses such a relation name
abbrev pub uses_unknown : List Relation → Part → Bool
uses_unknown relations (RelationPart name columns sorts) = false
uses_unknown relations (MethodPart name relation inputs cost) = is_unknown relations relation
uses_unknown relations (RulePart line body head) = list_any (λ atom. is_unknown relations atom.relation) body || list_any (λ atom. is_unknown relations atom.relation) head
uses_unknown relations (KeyPart line relation columns target target_columns) = is_unknown relations relation || is_unknown relations target
uses_unknown relations (ConstantPart text) = false
uses_unknown relations (SourcePart relation kind locator) = is_unknown relations relation

-- the atom has another number of terms than its relation has columns
abbrev pub is_misfit : List Relation → NamedAtom → Bool
is_misfit relations atom = not (length atom.terms == length (columns_of relations atom.relation))

-- some atom is such, or the two lists of a foreign key differ in length
abbrev pub has_wrong_arity : List Relation → Part → Bool
has_wrong_arity relations (RulePart line body head) = list_any (is_misfit relations) body || list_any (is_misfit relations) head
has_wrong_arity relations (KeyPart line relation columns target target_columns) = not (length columns == length target_columns)
has_wrong_arity relations _ = false

-- some name is no column of the relation
abbrev pub lacks : List Relation → List ℕ → List (List ℕ) → Bool
lacks relations relation names = list_any (λ name. not (is_among (columns_of relations relation) name)) names

-- some column name of the part is not one of its relation
abbrev pub has_unknown_column : List Relation → Part → Bool
has_unknown_column relations (MethodPart name relation inputs cost) = lacks relations relation inputs
has_unknown_column relations (KeyPart line relation columns target target_columns) = lacks relations relation columns || lacks relations target target_columns
has_unknown_column relations _ = false

-- a count that is zero or above the limit
abbrev pub is_outside : ℕ → ℕ → Bool
is_outside most count = (count == 0) || nat_lt most count

-- the distinct constants of the constant parts and the rules
abbrev pub constant_count : List Part → ℕ
constant_count parts = length (each_once (flat_map part_constants parts))

-- whether the distinct constants of the parts up to this one are too many
abbrev pub has_many_constants : List Part → Part → Bool
has_many_constants earlier part = nat_lt MOST_CONSTANTS (constant_count (earlier ++ part ∷ []))

-- the first limit that a part of each kind passes: by a count of its own, or since as many parts of its kind as are allowed stand before it
abbrev pub relation_limit : List Part → ℕ → Option Limit
relation_limit earlier columns =
    if nat_le MOST_RELATIONS (length (filter is_relation earlier)) then Some Relations
    else if is_outside MOST_COLUMNS columns then Some Columns
    else None

abbrev pub method_limit : List Part → ℕ → Option Limit
method_limit earlier cost =
    if nat_le MOST_METHODS (length (filter is_method earlier)) then Some Methods
    else if nat_lt MOST_COST cost then Some Cost
    else None

abbrev pub rule_limit : List Part → List NamedAtom → List NamedAtom → Bool → Option Limit
rule_limit earlier body head many_constants =
    if nat_le MOST_RULES (length (filter is_rule earlier)) then Some Rules
    else if is_outside MOST_BODY_ATOMS (length body) then Some BodyAtoms
    else if is_outside MOST_HEAD_ATOMS (length head) then Some HeadAtoms
    else if nat_lt MOST_VARIABLES (length (variables_of (body ++ head))) then Some Variables
    else if many_constants then Some Constants
    else None

abbrev pub key_limit : List Part → Option Limit
key_limit earlier = if nat_le MOST_RULES (length (filter is_rule earlier)) then Some Rules else None

-- the first limit that the part passes
abbrev pub passed_limit : List Part → Part → Option Limit
passed_limit earlier (RelationPart name columns sorts) = relation_limit earlier (length columns)
passed_limit earlier (MethodPart name relation inputs cost) = method_limit earlier cost
passed_limit earlier (RulePart line body head) = rule_limit earlier body head (has_many_constants earlier (RulePart line body head))
passed_limit earlier (KeyPart line relation columns target target_columns) = key_limit earlier
passed_limit earlier (ConstantPart text) = if has_many_constants earlier (ConstantPart text) then Some Constants else None
passed_limit earlier (SourcePart relation kind locator) = None

-- the part after the earlier ones has this fault, where the relations are those of all parts
abbrev pub IsFaultOf : List Relation → List Part → Part → SchemaFault → Type 0
IsFaultOf relations earlier part DuplicateName = IsTrue (repeats_name earlier part)
IsFaultOf relations earlier part UnknownRelation = IsTrue (uses_unknown relations part)
IsFaultOf relations earlier part WrongArity = IsTrue (has_wrong_arity relations part)
IsFaultOf relations earlier part UnknownColumn = IsTrue (has_unknown_column relations part)
IsFaultOf relations earlier part (OverLimit limit) = passed_limit earlier part ≡ Some limit
IsFaultOf relations earlier part Recursive = IsTrue (is_rule part) × AreRecursive (rules_of relations (earlier ++ part ∷ []))
IsFaultOf relations earlier part WrongSort = HasWrongSort relations part

-- the first of the faults that the part shows without the chains of the rules
abbrev pub plain_fault : List Relation → List Part → Part → Option SchemaFault
plain_fault relations earlier part =
    if repeats_name earlier part then Some DuplicateName
    else if uses_unknown relations part then Some UnknownRelation
    else if has_wrong_arity relations part then Some WrongArity
    else if has_unknown_column relations part then Some UnknownColumn
    else option_map OverLimit (passed_limit earlier part)

-- the order in which faults are looked for
abbrev pub fault_number : SchemaFault → ℕ
fault_number DuplicateName = 1
fault_number UnknownRelation = 2
fault_number WrongArity = 3
fault_number UnknownColumn = 4
fault_number (OverLimit limit) = 5
fault_number Recursive = 6
fault_number WrongSort = 7

-- the part after the earlier ones has this fault and none that is looked for before it
pub record IsLeastFault (relations : List Relation) (earlier : List Part) (part : Part) (fault : SchemaFault) : Type 0 where
  pub has : IsFaultOf relations earlier part fault
  pub least : (other : SchemaFault) → IsFaultOf relations earlier part other → fault_number fault ≤ fault_number other

-- the part after the earlier ones has no fault
abbrev pub IsFaultless : List Relation → List Part → Part → Type 0
IsFaultless relations earlier part = (fault : SchemaFault) → IsFaultOf relations earlier part fault → ⊥

-- the part at the index has this fault
abbrev pub HasFault : List Part → ℕ → SchemaFault → Type 0
HasFault parts index fault = (part : Part) × (slice_get parts index ≡ Some part) × IsFaultOf (relations_of parts) (take index parts) part fault

-- the part at the index is the first that has a fault, and this is its least
pub record IsFirstFault (parts : List Part) (index : ℕ) (fault : SchemaFault) : Type 0 where
  pub has : HasFault parts index fault
  pub least : (other : SchemaFault) → HasFault parts index other → fault_number fault ≤ fault_number other
  pub first : (before : ℕ) (other : SchemaFault) → before < index → HasFault parts before other → ⊥

-- the cause of a fault of building: none is told of want of memory
abbrev pub IsCause : List Part → BuildFault → Type 0
IsCause parts NoMemory = Unit {0}
IsCause parts (At index fault) = IsFirstFault parts index fault

-- no part has a fault
abbrev pub AreFaultless : List Part → Type 0
AreFaultless parts = (index : ℕ) (fault : SchemaFault) → HasFault parts index fault → ⊥

-- no name of a relation, a column, a method or a kind is empty
abbrev pub IsNamed : Part → Type 0
IsNamed (RelationPart name columns sorts) = (name ≢ []) × ((column : List ℕ) → Contains columns column → column ≢ [])
IsNamed (MethodPart name relation inputs cost) = name ≢ []
IsNamed (SourcePart relation kind locator) = kind ≢ []
IsNamed _ = Unit {0}

abbrev pub AreNamed : List Part → Type 0
AreNamed parts = (part : Part) → Contains parts part → IsNamed part

-- each relation has a sort for each of its columns
abbrev pub HasSorts : Part → Type 0
HasSorts (RelationPart name columns sorts) = length sorts ≡ length columns
HasSorts _ = Unit {0}

abbrev pub HaveSorts : List Part → Type 0
HaveSorts parts = (part : Part) → Contains parts part → HasSorts part
