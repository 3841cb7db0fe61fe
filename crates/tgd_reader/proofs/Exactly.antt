-- Bytes are the text of one schema at most, and then no fault is theirs.
use Rattle.std.proofs.Common.{◌≡◌, ℕ, List, Result, Ok, Err, refl, sym, ap, subst, ◌∙◌}
use Rattle.std.specs.Prelude.{IfOk, IfErr}
use Rattle.std.proofs.Props.{props}
use Rattle.meaning.specs.declared.types.Relation.{Relation}
use Rattle.meaning.specs.declared.types.Method.{Method}
use Rattle.meaning.specs.declared.types.Rule.{Rule}
use Rattle.pq_text.proofs.FirstBad.{utf8_clash}
use Rattle.access_schema.specs.declared.part.Part.{Part}
use Rattle.access_schema.specs.declared.schema.SourceLine.{SourceLine}
use Rattle.access_schema.specs.declared.schema.Schema.{Schema}
use Rattle.access_schema.specs.Content.{Builds}
use Rattle.access_schema.specs.Faults.{HasFault}
use Rattle.access_schema.specs.Invariant.{IsSchema}
use Rattle.tgd_reader.specs.declared.parts.Declared.{Declared}
use Rattle.tgd_reader.specs.declared.fault.PartsFault.{PartsFault}
use Rattle.tgd_reader.specs.declared.fault.PartsFault.TheVariants as faulty
use Rattle.tgd_reader.specs.declared.fault.ReadFault.{ReadFault}
use Rattle.tgd_reader.specs.declared.fault.ReadFault.TheVariants as faults
use Rattle.tgd_reader.specs.Grammar.{HasParts, HasFaultyLine}
use Rattle.tgd_reader.specs.SchemaText.{IsSchemaText, IsReadFault, IsReadAs}
use Rattle.tgd_reader.proofs.Once.{integer_once, holding_once}
use Rattle.tgd_reader.proofs.PartLaws.{text_only}

-- ---- a schema is its fields

abbrev Fields : Type 0
Fields = record { relations : List Relation; methods : List Method; rules : List Rule; constants : List (List ℕ); sources : List SourceLine }

abbrev Holds : Fields → Type 0
Holds f = IsSchema f.relations f.methods f.rules f.constants f.sources

holds_once : (f : Fields) (v w : Holds f) → v ≡ w
holds_once f = hlevel (props, integer_once, holding_once)

abbrev fields_of : Schema → Fields
fields_of s = record { relations = s.relations; methods = s.methods; rules = s.rules; constants = s.constants; sources = s.sources }

abbrev made_of : (f : Fields) → Holds f → Schema
made_of f v = record { relations = f.relations; methods = f.methods; rules = f.rules; constants = f.constants; sources = f.sources; valid = v }

same_made : (b : Schema) (v : Holds (fields_of b)) → made_of (fields_of b) v ≡ b
same_made b v = ap (made_of (fields_of b)) (holds_once (fields_of b) v b.valid)

same_schema : (a b : Schema) → fields_of a ≡ fields_of b → a ≡ b
same_schema a b e = subst (λ (f : Fields). (v : Holds f) → made_of f v ≡ b) (sym e) (same_made b) a.valid

-- parts build one schema
built_once : (parts : List Part) (a b : Schema) → Builds parts a → Builds parts b → a ≡ b
built_once parts a b p q =
    let e : a.relations ≡ b.relations = p.relations ∙ sym q.relations in
    let f : a.methods ≡ b.methods = p.methods ∙ sym q.methods in
    let g : a.rules ≡ b.rules = p.rules ∙ sym q.rules in
    let h : a.constants ≡ b.constants = p.constants ∙ sym q.constants in
    let k : a.sources ≡ b.sources = p.sources ∙ sym q.sources in
    same_schema a b cc

-- ---- texts

-- a text has one list of parts
declared_once : (text : List ℕ) (x y : Declared) → HasParts text x → HasParts text y → x ≡ y
declared_once text x y p q = text_only text (Ok x) p tt y q

text_not_faulty : (text : List ℕ) (line : ℕ) (x : Declared) → HasParts text x → HasFaultyLine text (faulty.Line line) → ⊥
text_not_faulty text line x has fault =
    let r : Result Declared PartsFault = Err (faulty.Line line) in
    text_only text r tt fault x has

pub read_only : (bytes : List ℕ) (r : Result Schema ReadFault) → IfOk r (λ schema. IsSchemaText bytes schema) → IfErr r (λ fault. IsReadFault bytes fault) → (schema : Schema) → IsSchemaText bytes schema → IsReadAs schema r
read_only bytes (Ok found) ok err schema is =
    let same : ok.1.declared ≡ is.1.declared = declared_once bytes ok.1.declared is.1.declared ok.1.parts is.1.parts in
    built_once is.1.declared.parts found schema (subst (λ (d : Declared). Builds d.parts found) same ok.1.builds) is.1.builds
read_only bytes (Err faults.NoMemory) ok err schema is = tt
read_only bytes (Err (faults.NotUtf8 offset)) ok err schema is = utf8_clash bytes offset err is.0
read_only bytes (Err (faults.Line line)) ok err schema is = text_not_faulty bytes line is.1.declared is.1.parts err.1
read_only bytes (Err (faults.Schema line fault)) ok err schema is =
    let same : err.1.declared ≡ is.1.declared = declared_once bytes err.1.declared is.1.declared err.1.parts is.1.parts in
    is.1.faultless err.1.first.index fault (subst (λ (d : Declared). HasFault d.parts err.1.first.index fault) same err.1.first.first.has)

nothing_told : (schema : Schema) (fault : ReadFault) → IsReadAs schema (Err fault) → fault ≡ faults.NoMemory
nothing_told schema faults.NoMemory is = refl
nothing_told schema _ is = absurd is

-- The text of a schema has no fault.
pub no_fault : (bytes : List ℕ) (schema : Schema) (fault : ReadFault) → IsSchemaText bytes schema → IsReadFault bytes fault → fault ≡ faults.NoMemory
no_fault bytes schema fault is has = nothing_told schema fault (read_only bytes (Err fault) tt has schema is)
