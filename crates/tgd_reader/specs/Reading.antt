-- A line's tokens, read from left to right.
use Rattle.std.specs.Prelude.{◌≡◌, ◌++◌, ℕ, min, map, codes, Bool, List, [], ◌∷◌, length, Option, None, Some, Result, Ok, Err, if◌then◌else◌}
use Rattle.pq_text.specs.declared.lexeme.Lexeme.{Lexeme}
use Rattle.pq_text.specs.declared.lexeme.Line.{Line}
use Rattle.pq_text.specs.Lexemes.{◌>>=◌, symbol_at, word_at, name_at, value_at, text_at, number_at, names_at, name_next, word_next, end_at, members}
use Rattle.pq_text.specs.Numbers.{value_of}
use Rattle.meaning.specs.declared.types.Sort.{Sort}
use Rattle.meaning.specs.declared.types.Sort.TheVariants.{Text, Int}
use Rattle.access_schema.specs.declared.part.NamedTerm.{NamedTerm}
use Rattle.access_schema.specs.declared.part.NamedTerm.TheVariants.{Var, Const}
use Rattle.access_schema.specs.declared.part.NamedAtom.{NamedAtom}
use Rattle.access_schema.specs.declared.part.Part.{Part}
use Rattle.access_schema.specs.declared.part.Part.TheVariants.{Relation, Method, Rule, ForeignKey, Constant, Source}
use Rattle.tgd_reader.specs.declared.listed.Listing.{Listing}
use Rattle.tgd_reader.specs.declared.column.Column.{Column}
use Rattle.tgd_reader.specs.declared.parts.Declared.{Declared}
use Rattle.tgd_reader.specs.declared.fault.PartsFault.{PartsFault}
use Rattle.tgd_reader.specs.declared.fault.PartsFault.TheVariants as faults

unfoldable pub listing_at : List Lexeme → Option (Listing × List Lexeme)
listing_at ls = do
  relation ← name_at ls
  inside ← symbol_at (codes "(") relation.1
  columns ← names_at inside
  rest ← symbol_at (codes ")") columns.1
  Some (record { relation = relation.0; columns = columns.0 }, rest)

abbrev pub inputs_or : List Lexeme → Option (List Lexeme) → Option (List (List ℕ) × List Lexeme)
inputs_or ls (Some rest) = Some ([], rest)
inputs_or ls None = do
  inputs ← names_at ls
  rest ← symbol_at (codes ")") inputs.1
  Some (inputs.0, rest)

-- inputs or none, and the closing bracket
abbrev pub inputs_at : List Lexeme → Option (List (List ℕ) × List Lexeme)
inputs_at ls = inputs_or ls (symbol_at (codes ")") ls)

abbrev pub term_at : List Lexeme → Option (NamedTerm × List Lexeme)
term_at ls = if name_next ls then (name_at ls >>= λ x. Some (Var x.0, x.1)) else (value_at ls >>= λ x. Some (Const x.0, x.1))

abbrev pub terms_at : List Lexeme → Option (List NamedTerm × List Lexeme)
terms_at ls = members term_at (length ls) [] ls

unfoldable pub atom_at : List Lexeme → Option (NamedAtom × List Lexeme)
atom_at ls = do
  relation ← name_at ls
  inside ← symbol_at (codes "(") relation.1
  terms ← terms_at inside
  rest ← symbol_at (codes ")") terms.1
  Some (record { relation = relation.0; terms = terms.0 }, rest)

abbrev pub atoms_at : List Lexeme → Option (List NamedAtom × List Lexeme)
atoms_at ls = members atom_at (length ls) [] ls

-- ---- columns of a relation

abbrev pub name_of : Column → List ℕ
name_of column = column.name

abbrev pub given_sort : Option Sort → Sort
given_sort None = Text
given_sort (Some sort) = sort

-- a column that is given no sort is of the sort text
abbrev pub sort_of : Column → Sort
sort_of column = given_sort column.word

-- the word of a sort, or none
abbrev pub sort_at : List Lexeme → Option (Option Sort × List Lexeme)
sort_at ls =
    if word_next (codes "int") ls then (word_at (codes "int") ls >>= λ rest. Some (Some Int, rest))
    else if word_next (codes "text") ls then (word_at (codes "text") ls >>= λ rest. Some (Some Text, rest))
    else Some (None, ls)

-- a column of a version without sorts is its name alone
abbrev pub word_behind : Bool → List Lexeme → Option (Option Sort × List Lexeme)
word_behind has_sorts ls = if has_sorts then sort_at ls else Some (None, ls)

unfoldable pub column_at : Bool → List Lexeme → Option (Column × List Lexeme)
column_at has_sorts ls = do
  name ← name_at ls
  word ← word_behind has_sorts name.1
  Some (record { name = name.0; word = word.0 }, word.1)

abbrev pub columns_at : Bool → List Lexeme → Option (List Column × List Lexeme)
columns_at has_sorts ls = members (column_at has_sorts) (length ls) [] ls

-- ---- declarations

unfoldable pub relation_at : Bool → List Lexeme → Option (Part × List Lexeme)
relation_at has_sorts ls = do
  behind ← word_at (codes "relation") ls
  name ← name_at behind
  inside ← symbol_at (codes "(") name.1
  columns ← columns_at has_sorts inside
  rest ← symbol_at (codes ")") columns.1
  Some (Relation name.0 (map name_of columns.0) (map sort_of columns.0), rest)

-- the number of some digits, or 1,000,001 where it passes a million
abbrev pub cost_of : List ℕ → ℕ
cost_of digits = min (value_of digits) 1000001

unfoldable pub cost_at : List Lexeme → Option (ℕ × List Lexeme)
cost_at ls = do
  behind ← word_at (codes "cost") ls
  digits ← number_at behind
  Some (cost_of digits.0, digits.1)

unfoldable pub method_at : List Lexeme → Option (Part × List Lexeme)
method_at ls = do
  behind ← word_at (codes "method") ls
  name ← name_at behind
  on ← word_at (codes "on") name.1
  relation ← name_at on
  inside ← symbol_at (codes "(") relation.1
  inputs ← inputs_at inside
  cost ← cost_at inputs.1
  Some (Method name.0 relation.0 inputs.0 cost.0, cost.1)

unfoldable pub rule_at : ℕ → List Lexeme → Option (Part × List Lexeme)
rule_at number ls = do
  behind ← word_at (codes "rule") ls
  body ← atoms_at behind
  arrow ← symbol_at (codes "->") body.1
  head ← atoms_at arrow
  Some (Rule number body.0 head.0, head.1)

unfoldable pub foreign_key_at : ℕ → List Lexeme → Option (Part × List Lexeme)
foreign_key_at number ls = do
  foreign ← word_at (codes "foreign") ls
  key ← word_at (codes "key") foreign
  source ← listing_at key
  behind ← word_at (codes "references") source.1
  target ← listing_at behind
  Some (ForeignKey number source.0.relation source.0.columns target.0.relation target.0.columns, target.1)

unfoldable pub constant_at : List Lexeme → Option (Part × List Lexeme)
constant_at ls = do
  behind ← word_at (codes "constant") ls
  value ← value_at behind
  Some (Constant value.0, value.1)

unfoldable pub source_at : List Lexeme → Option (Part × List Lexeme)
source_at ls = do
  behind ← word_at (codes "source") ls
  relation ← name_at behind
  kind ← name_at relation.1
  locator ← text_at kind.1
  Some (Source relation.0 kind.0 locator.0, locator.1)

abbrev pub part_at : Bool → ℕ → List Lexeme → Option (Part × List Lexeme)
part_at has_sorts number ls =
    if word_next (codes "relation") ls then relation_at has_sorts ls
    else if word_next (codes "method") ls then method_at ls
    else if word_next (codes "rule") ls then rule_at number ls
    else if word_next (codes "foreign") ls then foreign_key_at number ls
    else if word_next (codes "constant") ls then constant_at ls
    else source_at ls

abbrev pub declaration_at : Bool → ℕ → List Lexeme → Option (Part × List Lexeme)
declaration_at has_sorts number ls = do
  part ← part_at has_sorts number ls
  nothing ← end_at part.1
  Some (part.0, nothing)

-- ---- the lines of a text

abbrev pub next_parts : (List Part → List ℕ → Result Declared ℕ) → ℕ → List Part → List ℕ → List Lexeme → Option (Part × List Lexeme) → Result Declared ℕ
next_parts go number done numbers [] read = go done numbers
next_parts go number done numbers (t ∷ ts) None = Err number
next_parts go number done numbers (t ∷ ts) (Some p) = go (done ++ p.0 ∷ []) (numbers ++ number ∷ [])

-- the parts behind those that are done, or the number of the first line that is no declaration
abbrev pub parts_from : Bool → List Part → List ℕ → List Line → Result Declared ℕ
parts_from has_sorts done numbers [] = Ok (record { parts = done; lines = numbers })
parts_from has_sorts done numbers (line ∷ lines) =
    next_parts (λ parts ns. parts_from has_sorts parts ns lines) line.number done numbers line.tokens (declaration_at has_sorts line.number line.tokens)

-- a call gave what reading gives; memory may have run out
abbrev pub PartsGive : Result Declared PartsFault → Result Declared ℕ → Type 0
PartsGive (Ok declared) read = read ≡ Ok declared
PartsGive (Err (faults.Line number)) read = read ≡ Err number
PartsGive (Err faults.NoMemory) read = Unit {0}
