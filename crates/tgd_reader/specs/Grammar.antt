-- The grammar of schema texts: the form of each declaration, and the parts of a text.
use Rattle.std.specs.Prelude.{◌≡◌, ◌⊎◌, ◌++◌, ℕ, codes, map, nat_eq, Bool, true, false, Option, None, Some, Result, Ok, Err, List, [], ◌∷◌}
use Rattle.std.specs.List.{AllByRecursion}
use Rattle.pq_text.specs.declared.lexeme.Lexeme.{Lexeme}
use Rattle.pq_text.specs.declared.lexeme.Line.{Line}
use Rattle.pq_text.specs.declared.lexeme.TextLines.{TextLines}
use Rattle.pq_text.specs.Lines.{AreLines}
use Rattle.pq_text.specs.Forms.{Slot, Key, Mark, Name, Value, Quote, Digits, Takes, list_form, name_form, IsSome}
use Rattle.meaning.specs.declared.types.Sort.{Sort}
use Rattle.meaning.specs.declared.types.Sort.TheVariants.{Text, Int}
use Rattle.access_schema.specs.declared.part.NamedTerm.{NamedTerm}
use Rattle.access_schema.specs.declared.part.NamedTerm.TheVariants.{Var, Const}
use Rattle.access_schema.specs.declared.part.NamedAtom.{NamedAtom}
use Rattle.access_schema.specs.declared.part.Part.{Part}
use Rattle.access_schema.specs.declared.part.Part.TheVariants.{Relation, Method, Rule, ForeignKey, Constant, Source}
use Rattle.tgd_reader.specs.declared.column.Column.{Column}
use Rattle.tgd_reader.specs.declared.parts.Declared.{Declared}
use Rattle.tgd_reader.specs.declared.fault.PartsFault.{PartsFault}
use Rattle.tgd_reader.specs.declared.fault.PartsFault.TheVariants as faults
use Rattle.tgd_reader.specs.Reading.{cost_of, name_of, sort_of}
use Rattle.tgd_reader.specs.Version.{told_version}

-- ---- forms

abbrev pub term_form : NamedTerm → List Slot
term_form (Var n) = Name n ∷ []
term_form (Const v) = Value v ∷ []

-- NAME ( TERM , .. )
abbrev pub atom_form : NamedAtom → List Slot
atom_form a = Name a.relation ∷ Mark (codes "(") ∷ (list_form term_form a.terms ++ Mark (codes ")") ∷ [])

-- NAME ( NAME , .. )
abbrev pub listing_form : List ℕ → List (List ℕ) → List Slot
listing_form relation columns = Name relation ∷ Mark (codes "(") ∷ (list_form name_form columns ++ Mark (codes ")") ∷ [])

-- the word of a sort, where one is given
abbrev pub sort_form : Option Sort → List Slot
sort_form None = []
sort_form (Some Int) = Key (codes "int") ∷ []
sort_form (Some Text) = Key (codes "text") ∷ []

-- NAME, NAME int or NAME text
abbrev pub column_form : Column → List Slot
column_form column = Name column.name ∷ sort_form column.word

-- relation NAME ( COLUMN , .. )
abbrev pub relation_form : List ℕ → List Column → List Slot
relation_form name columns = Key (codes "relation") ∷ Name name ∷ Mark (codes "(") ∷ (list_form column_form columns ++ Mark (codes ")") ∷ [])

-- method NAME on NAME ( NAME , .. ) cost Number, with no, one or more names in the brackets
abbrev pub method_form : List ℕ → List ℕ → List (List ℕ) → ℕ → List Slot
method_form name relation inputs cost =
    Key (codes "method") ∷ Name name ∷ Key (codes "on") ∷ Name relation ∷ Mark (codes "(")
    ∷ (list_form name_form inputs ++ Mark (codes ")") ∷ Key (codes "cost") ∷ Digits (λ digits. nat_eq (cost_of digits) cost) ∷ [])

-- rule ATOM , .. -> ATOM , ..
abbrev pub rule_form : List NamedAtom → List NamedAtom → List Slot
rule_form body head = Key (codes "rule") ∷ (list_form atom_form body ++ Mark (codes "->") ∷ list_form atom_form head)

-- foreign key NAME ( NAME , .. ) references NAME ( NAME , .. )
abbrev pub foreign_key_form : List ℕ → List (List ℕ) → List ℕ → List (List ℕ) → List Slot
foreign_key_form relation columns target target_columns =
    Key (codes "foreign") ∷ Key (codes "key") ∷ (listing_form relation columns ++ Key (codes "references") ∷ listing_form target target_columns)

-- constant VALUE
abbrev pub constant_form : List ℕ → List Slot
constant_form value = Key (codes "constant") ∷ Value value ∷ []

-- source NAME NAME Text
abbrev pub source_form : List ℕ → List ℕ → List ℕ → List Slot
source_form relation kind locator = Key (codes "source") ∷ Name relation ∷ Name kind ∷ Quote locator ∷ []

-- ---- declarations

-- an atom has one term or more
abbrev pub IsAtom : NamedAtom → Type 0
IsAtom a = IsSome a.terms

-- in version 1 no column is given a sort
abbrev pub IsGiven : Bool → Option Sort → Type 0
IsGiven true word = Unit {0}
IsGiven false word = word ≡ None

abbrev pub IsColumn : Bool → Column → Type 0
IsColumn has_sorts column = IsGiven has_sorts column.word

-- The tokens of the line with this number are the declaration up to the rest; whether columns have sorts is a matter of the version.
-- Lists have one member or more, but for the inputs of a method.
abbrev pub Declares : Bool → ℕ → List Lexeme → Part → List Lexeme → Type 0
Declares has_sorts number ls (Relation name columns sorts) rest =
    (written : List Column) × IsSome written × AllByRecursion (IsColumn has_sorts) written
    × (columns ≡ map name_of written) × (sorts ≡ map sort_of written) × Takes ls (relation_form name written) rest
Declares has_sorts number ls (Method name relation inputs cost) rest = Takes ls (method_form name relation inputs cost) rest
Declares has_sorts number ls (Rule line body head) rest =
    IsSome body × AllByRecursion IsAtom body × IsSome head × AllByRecursion IsAtom head × (line ≡ number) × Takes ls (rule_form body head) rest
Declares has_sorts number ls (ForeignKey line relation columns target target_columns) rest =
    IsSome columns × IsSome target_columns × (line ≡ number) × Takes ls (foreign_key_form relation columns target target_columns) rest
Declares has_sorts number ls (Constant text) rest = Takes ls (constant_form text) rest
Declares has_sorts number ls (Source relation kind locator) rest = Takes ls (source_form relation kind locator) rest

-- The line with this number is the declaration.
abbrev pub IsDeclaration : Bool → ℕ → List Lexeme → Part → Type 0
IsDeclaration has_sorts number line part = Declares has_sorts number line part []

-- ---- texts

-- A line without tokens is no part, and each other line is one, with the line's number.
abbrev pub HasPart : Bool → ℕ → List Lexeme → List Part → List ℕ → (List Part → List ℕ → Type 0) → Type 0
HasPart has_sorts number [] parts numbers others = others parts numbers
HasPart has_sorts number (t ∷ ts) [] numbers others = ⊥
HasPart has_sorts number (t ∷ ts) (part ∷ parts) [] others = ⊥
HasPart has_sorts number (t ∷ ts) (part ∷ parts) (n ∷ numbers) others = IsDeclaration has_sorts number (t ∷ ts) part × (n ≡ number) × others parts numbers

abbrev pub AreParts : Bool → List Line → List Part → List ℕ → Type 0
AreParts has_sorts [] parts numbers = (parts ≡ []) × (numbers ≡ [])
AreParts has_sorts (line ∷ lines) parts numbers = HasPart has_sorts line.number line.tokens parts numbers (AreParts has_sorts lines)

-- The lines of declarations are these parts, in the version of the lines.
abbrev pub AreDeclared : List Line → List Part → List ℕ → Type 0
AreDeclared lines parts numbers = AreParts (told_version lines).0 (told_version lines).1 parts numbers

-- The text has lines alone that name its version, are passed over or are these parts.
abbrev pub HasParts : List ℕ → Declared → Type 0
HasParts text declared = (lines : List Line) × AreLines text (record { whole = lines; broken = None }) × AreDeclared lines declared.parts declared.lines

-- The lines before it are parts, and the line of this number has tokens and is no declaration.
pub record HasMisfit (has_sorts : Bool) (lines : List Line) (number : ℕ) : Type 0 where
  pub before : List Line
  pub line : Line
  pub after : List Line
  pub declared : Declared
  pub whole : lines ≡ before ++ line ∷ after
  pub are : AreParts has_sorts before declared.parts declared.lines
  pub number_is : line.number ≡ number
  pub none : (part : Part) → IsDeclaration has_sorts line.number line.tokens part → ⊥
  pub some : IsSome line.tokens

abbrev pub IsFault : List Line → PartsFault → Type 0
IsFault lines (faults.Line number) = HasMisfit (told_version lines).0 (told_version lines).1 number
IsFault lines faults.NoMemory = Unit {0}

-- All lines before the one with a lexical fault are parts.
abbrev pub IsBroken : TextLines → ℕ → Type 0
IsBroken told number = (told.broken ≡ Some number) × (declared : Declared) × AreDeclared told.whole declared.parts declared.lines

-- The first line that is no declaration: one that does not fit, or the one that holds the lexical fault.
abbrev pub HasFaultyLine : List ℕ → PartsFault → Type 0
HasFaultyLine text faults.NoMemory = Unit {0}
HasFaultyLine text (faults.Line number) = (told : TextLines) × AreLines text told × (IsFault told.whole (faults.Line number) ⊎ IsBroken told number)

-- The answer is this, unless memory runs out.
abbrev pub OkOrNoMemory : Declared → Result Declared PartsFault → Type 0
OkOrNoMemory declared (Ok found) = found ≡ declared
OkOrNoMemory declared (Err (faults.Line number)) = ⊥
OkOrNoMemory declared (Err faults.NoMemory) = Unit {0}
