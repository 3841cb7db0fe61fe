-- The printed text of a schema: its declarations with names in place of numbers, one on a line.
use Rattle.std.specs.Prelude.{◌≡◌, ◌++◌, ◌∷◌, ◌+◌, ℕ, codes, Bool, true, false, List, [], Option, Some, None, map, slice_get, slice_index_or}
use Rattle.std.specs.Fmt.{decimal}
use Rattle.std.specs.List.{list_any}
use Rattle.meaning.specs.declared.types.Relation.{Relation}
use Rattle.meaning.specs.declared.types.Method.{Method}
use Rattle.meaning.specs.declared.types.Rule.{Rule}
use Rattle.meaning.specs.declared.types.Atom.{Atom}
use Rattle.meaning.specs.declared.types.Sort.{Sort}
use Rattle.meaning.specs.declared.types.Sort.TheVariants.{Text, Int}
use Rattle.meaning.specs.declared.types.Term.{Term}
use Rattle.meaning.specs.declared.types.Term.TheVariants.{Var, Const}
use Rattle.pq_text.specs.Pieces.{Piece, word_piece, mark_piece, name_piece, value_piece, number_piece, list_pieces, text_of, lines_text}
use Rattle.pq_text.specs.Lines.{feeds}
use Rattle.tgd_reader.specs.declared.parts.Declared.{Declared}
use Rattle.tgd_reader.specs.declared.column.Column.{Column}
use Rattle.access_schema.specs.declared.part.Part.{Part}
use Rattle.access_schema.specs.declared.part.Part.TheVariants.{Relation as RelationPart, Method as MethodPart, Rule as RulePart, ForeignKey as KeyPart, Constant as ConstantPart, Source as SourcePart}
use Rattle.access_schema.specs.declared.part.NamedAtom.{NamedAtom}
use Rattle.access_schema.specs.declared.part.NamedTerm.{NamedTerm}
use Rattle.access_schema.specs.declared.part.NamedTerm.TheVariants.{Var as NamedVar, Const as NamedConst}
use Rattle.access_schema.specs.declared.schema.SourceLine.{SourceLine}
use Rattle.access_schema.specs.declared.schema.Schema.{Schema}

-- ---- names in place of numbers

abbrev pub name_in : Option Relation → List ℕ
name_in None = []
name_in (Some relation) = relation.name

abbrev pub columns_in : Option Relation → List (List ℕ)
columns_in None = []
columns_in (Some relation) = relation.columns

-- the name of the relation with this number
abbrev pub name_at : List Relation → ℕ → List ℕ
name_at relations number = name_in (slice_get relations number)

-- the names of the columns at some places of the relation with this number
abbrev pub columns_at : List Relation → ℕ → List ℕ → List (List ℕ)
columns_at relations number places = map (λ place. slice_index_or (columns_in (slice_get relations number)) place []) places

-- the variable with number k is printed as xk
abbrev pub variable_name : ℕ → List ℕ
variable_name k = 120 ∷ decimal k

abbrev pub named_term : Term → NamedTerm
named_term (Var k) = NamedVar (variable_name k)
named_term (Const text) = NamedConst text

abbrev pub named_atom : List Relation → Atom → NamedAtom
named_atom relations atom = record { relation = name_at relations atom.rel; terms = map named_term atom.terms }

-- ---- the declarations of a schema

abbrev pub relation_part : Relation → Part
relation_part relation = RelationPart relation.name relation.columns relation.sorts

abbrev pub method_part : List Relation → Method → Part
method_part relations method = MethodPart method.name (name_at relations method.rel) (columns_at relations method.rel method.inputs) method.cost

abbrev pub rule_part : List Relation → Rule → Part
rule_part relations rule = RulePart rule.line (map (named_atom relations) rule.body) (map (named_atom relations) rule.head)

abbrev pub source_part : List Relation → SourceLine → Part
source_part relations source = SourcePart (name_at relations source.rel) source.kind source.locator

-- the relations, the methods, the rules, the constants and the sources, each kind in the order of the schema
abbrev pub parts_of : Schema → List Part
parts_of schema =
    map relation_part schema.relations
    ++ (map (method_part schema.relations) schema.methods
    ++ (map (rule_part schema.relations) schema.rules
    ++ (map ConstantPart schema.constants
    ++ map (source_part schema.relations) schema.sources)))

-- ---- the version

abbrev pub is_int : Sort → Bool
is_int Int = true
is_int Text = false

abbrev pub holds_integers : Relation → Bool
holds_integers relation = list_any is_int relation.sorts

-- whether some column holds integers
abbrev pub has_integers : List Relation → Bool
has_integers relations = list_any holds_integers relations

-- schema 2
abbrev pub version_pieces : List Piece
version_pieces = word_piece false (codes "schema") ∷ number_piece true 2 ∷ []

-- version 2 is named on a line of its own, and version 1 is not named
abbrev pub version_lines : Bool → List (List Piece)
version_lines true = version_pieces ∷ []
version_lines false = []

-- ---- how a declaration is printed

abbrev pub name_pieces : Bool → List ℕ → List Piece
name_pieces spaced name = name_piece spaced name ∷ []

abbrev pub term_pieces : Bool → NamedTerm → List Piece
term_pieces spaced (NamedVar name) = name_piece spaced name ∷ []
term_pieces spaced (NamedConst text) = value_piece spaced text ∷ []

-- NAME(TERM, ..)
unfoldable pub atom_pieces : Bool → NamedAtom → List Piece
atom_pieces spaced atom = name_piece spaced atom.relation ∷ mark_piece false (codes "(") ∷ (list_pieces term_pieces false atom.terms ++ mark_piece false (codes ")") ∷ [])

-- a column of integers is printed with the word of its sort, and another as its name alone
abbrev pub word_of : Sort → Option Sort
word_of Int = Some Int
word_of Text = None

abbrev pub column_of : List ℕ → Sort → Column
column_of name sort = record { name = name; word = word_of sort }

abbrev pub with_sorts : List (List ℕ) → List Sort → List Column
with_sorts [] sorts = []
with_sorts (name ∷ names) [] = []
with_sorts (name ∷ names) (sort ∷ sorts) = column_of name sort ∷ with_sorts names sorts

abbrev pub sort_pieces : Option Sort → List Piece
sort_pieces None = []
sort_pieces (Some Int) = word_piece true (codes "int") ∷ []
sort_pieces (Some Text) = word_piece true (codes "text") ∷ []

abbrev pub column_pieces : Bool → Column → List Piece
column_pieces spaced column = name_piece spaced column.name ∷ sort_pieces column.word

-- NAME(COLUMN, ..)
abbrev pub columns_pieces : List ℕ → List Column → List Piece
columns_pieces name columns = name_piece true name ∷ mark_piece false (codes "(") ∷ (list_pieces column_pieces false columns ++ mark_piece false (codes ")") ∷ [])

-- NAME(NAME, ..)
unfoldable pub listing_pieces : List ℕ → List (List ℕ) → List Piece
listing_pieces name columns = name_piece true name ∷ mark_piece false (codes "(") ∷ (list_pieces name_pieces false columns ++ mark_piece false (codes ")") ∷ [])

-- the tokens of a declaration, with a blank behind each word and comma and round each arrow
abbrev pub part_pieces : Part → List Piece
part_pieces (RelationPart name columns sorts) = word_piece false (codes "relation") ∷ columns_pieces name (with_sorts columns sorts)
part_pieces (MethodPart name relation inputs cost) =
    word_piece false (codes "method") ∷ name_piece true name ∷ word_piece true (codes "on") ∷ (listing_pieces relation inputs ++ word_piece true (codes "cost") ∷ number_piece true cost ∷ [])
part_pieces (RulePart line body head) = word_piece false (codes "rule") ∷ (list_pieces atom_pieces true body ++ mark_piece true (codes "->") ∷ list_pieces atom_pieces true head)
part_pieces (KeyPart line relation columns target target_columns) =
    word_piece false (codes "foreign") ∷ word_piece true (codes "key") ∷ (listing_pieces relation columns ++ word_piece true (codes "references") ∷ listing_pieces target target_columns)
part_pieces (ConstantPart text) = word_piece false (codes "constant") ∷ value_piece true text ∷ []
part_pieces (SourcePart relation kind locator) = word_piece false (codes "source") ∷ name_piece true relation ∷ name_piece true kind ∷ value_piece true locator ∷ []

-- the version where some column holds integers, and each declaration of the schema, on a line of its own
abbrev pub text_of_schema : Schema → List ℕ
text_of_schema schema = lines_text (version_lines (has_integers schema.relations) ++ map part_pieces (parts_of schema))

-- ---- schemas that differ in the lines of their rules alone

abbrev pub without_line : Rule → Rule
without_line rule = record rule { line = 0 }

-- The two schemas are the same but for the numbers of the lines on which their rules stand.
pub record AreSameButLines (one other : Schema) : Type 0 where
  pub relations : one.relations ≡ other.relations
  pub methods : one.methods ≡ other.methods
  pub rules : map without_line one.rules ≡ map without_line other.rules
  pub constants : one.constants ≡ other.constants
  pub sources : one.sources ≡ other.sources

-- ---- the lines of a printed text

-- the part on a line of this number
abbrev pub on_line : ℕ → Part → Part
on_line n (RelationPart name columns sorts) = RelationPart name columns sorts
on_line n (MethodPart name relation inputs cost) = MethodPart name relation inputs cost
on_line n (RulePart line body head) = RulePart n body head
on_line n (KeyPart line relation columns target target_columns) = KeyPart n relation columns target target_columns
on_line n (ConstantPart text) = ConstantPart text
on_line n (SourcePart relation kind locator) = SourcePart relation kind locator

-- the number of the line behind a part that is printed on a line of this number: a quoted text may hold line feeds
abbrev pub line_behind : ℕ → Part → ℕ
line_behind n part = n + feeds (text_of (part_pieces part)) + 1

abbrev pub placed_from : ℕ → List Part → List Part
placed_from n [] = []
placed_from n (part ∷ parts) = on_line n part ∷ placed_from (line_behind n part) parts

abbrev pub lines_from : ℕ → List Part → List ℕ
lines_from n [] = []
lines_from n (part ∷ parts) = n ∷ lines_from (line_behind n part) parts

-- the line of the first part: behind the version, where it is named
abbrev pub first_line : Bool → ℕ
first_line true = 2
first_line false = 1

-- the parts on the lines on which they are printed
abbrev pub printed_parts : Bool → List Part → Declared
printed_parts has_sorts parts = record { parts = placed_from (first_line has_sorts) parts; lines = lines_from (first_line has_sorts) parts }
