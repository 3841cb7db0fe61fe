-- The grammar of refutations: the form of each line, and the pair that a text says.
use Rattle.std.specs.Prelude.{◌≡◌, ◌≢◌, ◌⊎◌, ◌++◌, ℕ, codes, map, Option, None, Some, Result, Ok, Err, List, [], ◌∷◌, length, slice_get}
use Rattle.std.specs.List.{AllZip}
use Rattle.std.specs.Str.{IsUtf8}
use Rattle.pq_text.specs.declared.lexeme.Lexeme.{Lexeme}
use Rattle.pq_text.specs.declared.lexeme.Line.{Line}
use Rattle.pq_text.specs.declared.lexeme.TextLines.{TextLines}
use Rattle.pq_text.specs.Utf8.{IsFirstBad}
use Rattle.pq_text.specs.Lines.{AreLines, number_at}
use Rattle.pq_text.specs.Forms.{Slot, Key, Mark, Name, list_form, value_form}
use Rattle.meaning.specs.declared.types.Relation.{Relation}
use Rattle.meaning.specs.declared.types.Fact.{Fact}
use Rattle.meaning.specs.Instances.{IsInstance, IsWithin}
use Rattle.access_schema.specs.declared.schema.Schema.{Schema}
use Rattle.access_schema.specs.Meaning.{meaning_of}
use Rattle.plan_form.specs.Grammar.{IsOfForm, written}
use Rattle.findings.specs.declared.refutation.Witness.{Witness}
use Rattle.explain.specs.declared.fault.WitnessReadFault.{WitnessReadFault}
use Rattle.explain.specs.declared.fault.WitnessReadFault.TheVariants.{NoMemory, NotUtf8, Line as LineFault}

-- ---- lines

-- a line of one word
abbrev pub word_form : List ℕ → List Slot
word_form word = Key word ∷ []

-- no plan
abbrev pub opening_form : List Slot
opening_form = Key (codes "no") ∷ Key (codes "plan") ∷ []

-- answer VALUE , ..
abbrev pub answer_form : List (List ℕ) → List Slot
answer_form answer = Key (codes "answer") ∷ list_form value_form answer

-- NAME ( VALUE , .. )
abbrev pub row_form : List ℕ → List (List ℕ) → List Slot
row_form name row = Name name ∷ Mark (codes "(") ∷ (list_form value_form row ++ Mark (codes ")") ∷ [])

-- the name of a relation, and the empty name for a relation that is not there
abbrev pub name_of : Option Relation → List ℕ
name_of None = []
name_of (Some relation) = relation.name

-- the name of the fact's relation, and its values
abbrev pub fact_form : List Relation → Fact → List Slot
fact_form relations fact = row_form (name_of (slice_get relations fact.rel)) fact.row

-- the facts of an instance, and the word that ends them
abbrev pub facts_forms : List Relation → List Fact → List ℕ → List (List Slot)
facts_forms relations facts word = map (fact_form relations) facts ++ word_form word ∷ []

-- the opening line, the answer, and the facts of both instances
abbrev pub witness_forms : List Relation → Witness → List (List Slot)
witness_forms relations pair =
    opening_form ∷ answer_form pair.answer ∷ word_form (codes "first") ∷ (facts_forms relations pair.first (codes "second") ++ facts_forms relations pair.second (codes "end"))

-- ---- refutations

-- Each fact has a row that fits its relation, and the answer has one value or more.
pub record FitsSchema (schema : Schema) (pair : Witness) : Type 0 where
  pub first : IsInstance (meaning_of schema) pair.first
  pub second : IsInstance (meaning_of schema) pair.second
  pub some : pair.answer ≢ []

-- The lines are those of the pair, one for each form.
abbrev pub AreWitnessLines : Schema → List (List Lexeme) → Witness → Type 0
AreWitnessLines schema lines pair = FitsSchema schema pair × AllZip IsOfForm lines (witness_forms schema.relations pair)

-- The text says the pair: its lines that have tokens are the pair's lines.
abbrev pub SaysWitness : Schema → List ℕ → Witness → Type 0
SaysWitness schema text pair = (lines : List Line) × AreLines text (record { whole = lines; broken = None }) × AreWitnessLines schema (written lines) pair

-- The bytes are UTF-8, and the text that they are says the pair.
abbrev pub IsWitnessText : Schema → List ℕ → Witness → Type 0
IsWitnessText schema bytes pair = IsUtf8 bytes × SaysWitness schema bytes pair

-- Both pairs have the same facts in the same instances, and the same answer.
pub record HasSameFacts (pair other : Witness) : Type 0 where
  pub first_there : IsWithin pair.first other.first
  pub first_only : IsWithin other.first pair.first
  pub second_there : IsWithin pair.second other.second
  pub second_only : IsWithin other.second pair.second
  pub answer : other.answer ≡ pair.answer

-- The text says a pair that has the same facts and the same answer.
pub record IsReadAs (schema : Schema) (text : List ℕ) (pair : Witness) : Type 0 where
  pub read : Witness
  pub says : SaysWitness schema text read
  pub same : HasSameFacts pair read

-- ---- the first line that does not fit

-- Further lines behind these make a pair.
abbrev pub BeginWitness : Schema → List (List Lexeme) → Type 0
BeginWitness schema lines = (more : List (List Lexeme)) × (pair : Witness) × AreWitnessLines schema (lines ++ more) pair

-- The lines before it begin a pair, and with the line of this number they begin none.
pub record HasMisfit (schema : Schema) (lines : List Line) (number : ℕ) : Type 0 where
  pub before : List Line
  pub line : Line
  pub after : List Line
  pub whole : lines ≡ before ++ line ∷ after
  pub number_is : line.number ≡ number
  pub begins : BeginWitness schema (written before)
  pub none : BeginWitness schema (written (before ++ line ∷ [])) → ⊥

-- Behind lines that begin a pair comes the line with a lexical fault; or the text ends before the line end, and the line
-- that would come next is one more than the line feeds.
abbrev pub Stops : Schema → List ℕ → TextLines → Option ℕ → ℕ → Type 0
Stops schema text told (Some broken) number = number ≡ broken
Stops schema text told None number = ((pair : Witness) → AreWitnessLines schema (written told.whole) pair → ⊥) × (number ≡ number_at text (length text))

-- The first line that does not fit, or the end that comes too early.
abbrev pub IsFirstMisfit : Schema → List ℕ → ℕ → Type 0
IsFirstMisfit schema text number =
    (told : TextLines) × AreLines text told × (HasMisfit schema told.whole number ⊎ (BeginWitness schema (written told.whole) × Stops schema text told told.broken number))

-- Bytes that are no text have the offset of the first byte that begins no character, and a text has its first line that does not fit.
abbrev pub IsWitnessReadFault : Schema → List ℕ → WitnessReadFault → Type 0
IsWitnessReadFault schema bytes NoMemory = Unit {0}
IsWitnessReadFault schema bytes (NotUtf8 offset) = IsFirstBad bytes offset
IsWitnessReadFault schema bytes (LineFault number) = IsUtf8 bytes × IsFirstMisfit schema bytes number

-- The answer is this pair, unless memory runs out.
abbrev pub OkOrNoMemory : Witness → Result Witness WitnessReadFault → Type 0
OkOrNoMemory pair (Ok found) = found ≡ pair
OkOrNoMemory pair (Err NoMemory) = Unit {0}
OkOrNoMemory pair (Err _) = ⊥
