-- Which bytes are the text of a schema, and why others are not.
use Rattle.std.specs.Prelude.{◌≡◌, ℕ, List, slice_get, Some, Result, Ok, Err}
use Rattle.std.specs.Str.{IsUtf8}
use Rattle.pq_text.specs.Utf8.{IsFirstBad}
use Rattle.access_schema.specs.declared.fault.SchemaFault.{SchemaFault}
use Rattle.access_schema.specs.declared.schema.Schema.{Schema}
use Rattle.access_schema.specs.Content.{Builds}
use Rattle.access_schema.specs.Faults.{AreFaultless, IsFirstFault}
use Rattle.tgd_reader.specs.declared.parts.Declared.{Declared}
use Rattle.tgd_reader.specs.declared.fault.PartsFault.{PartsFault}
use Rattle.tgd_reader.specs.declared.fault.PartsFault.TheVariants as faulty
use Rattle.tgd_reader.specs.declared.fault.ReadFault.{ReadFault}
use Rattle.tgd_reader.specs.declared.fault.ReadFault.TheVariants as faults
use Rattle.tgd_reader.specs.Grammar.{HasParts, HasFaultyLine}

-- Each line of the text has no tokens or is one of the parts, no part has a fault, and the schema has exactly what the parts declare.
pub record DeclaresSchema (text : List ℕ) (schema : Schema) : Type 0 where
  pub declared : Declared
  pub parts : HasParts text declared
  pub faultless : AreFaultless declared.parts
  pub builds : Builds declared.parts schema

-- The bytes are UTF-8, and the text that they are declares the schema.
abbrev pub IsSchemaText : List ℕ → Schema → Type 0
IsSchemaText bytes schema = IsUtf8 bytes × DeclaresSchema bytes schema

-- The first faulty part stands on this line and has this as its least fault.
pub record StandsOn (declared : Declared) (line : ℕ) (fault : SchemaFault) : Type 0 where
  pub index : ℕ
  pub first : IsFirstFault declared.parts index fault
  pub stands : slice_get declared.lines index ≡ Some line

-- Each line has no tokens or is a part, and the first faulty part stands on this line and has this as its least fault.
pub record HasFaultyPart (bytes : List ℕ) (line : ℕ) (fault : SchemaFault) : Type 0 where
  pub declared : Declared
  pub parts : HasParts bytes declared
  pub first : StandsOn declared line fault

-- The cause of each fault: none is told of want of memory.
abbrev pub IsReadFault : List ℕ → ReadFault → Type 0
IsReadFault bytes faults.NoMemory = Unit {0}
IsReadFault bytes (faults.NotUtf8 offset) = IsFirstBad bytes offset
IsReadFault bytes (faults.Line line) = IsUtf8 bytes × HasFaultyLine bytes (faulty.Line line)
IsReadFault bytes (faults.Schema line fault) = IsUtf8 bytes × HasFaultyPart bytes line fault

-- The answer is this schema, unless memory runs out.
abbrev pub IsReadAs : Schema → Result Schema ReadFault → Type 0
IsReadAs schema (Ok found) = found ≡ schema
IsReadAs schema (Err faults.NoMemory) = Unit {0}
IsReadAs schema (Err (faults.NotUtf8 offset)) = ⊥
IsReadAs schema (Err (faults.Line line)) = ⊥
IsReadAs schema (Err (faults.Schema line fault)) = ⊥

-- a fault of the parts as one of the schema
abbrev pub read_fault : PartsFault → ReadFault
read_fault faulty.NoMemory = faults.NoMemory
read_fault (faulty.Line line) = faults.Line line

-- the fault of the parts of a text, where their schema is built
abbrev pub IsFaultyPart : Declared → ReadFault → Type 0
IsFaultyPart declared faults.NoMemory = Unit {0}
IsFaultyPart declared (faults.NotUtf8 offset) = ⊥
IsFaultyPart declared (faults.Line line) = ⊥
IsFaultyPart declared (faults.Schema line fault) = StandsOn declared line fault
