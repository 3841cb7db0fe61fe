-- What the two texts of the world of a size say: the schema of eight relations in a chain, and the statement through all of them.
use Rattle.std.specs.Prelude.{◌≡◌, ◌+◌, ◌-◌, ◌++◌, ℕ, List, [], ◌∷◌, codes, map}
use Rattle.std.specs.List.{range_with_len}
use Rattle.meaning.specs.declared.types.Term.TheVariants.{Var}
use Rattle.meaning.specs.declared.types.Relation.{Relation}
use Rattle.meaning.specs.declared.types.Sort.{Sort}
use Rattle.meaning.specs.declared.types.Sort.TheVariants.{Text}
use Rattle.meaning.specs.declared.types.Method.{Method}
use Rattle.meaning.specs.declared.types.Rule.{Rule}
use Rattle.meaning.specs.declared.types.Operand.TheVariants.{Column}
use Rattle.meaning.specs.declared.types.Condition.{Condition}
use Rattle.meaning.specs.declared.types.Select.{Select}
use Rattle.meaning.specs.declared.types.Statement.{Statement}
use Rattle.access_schema.specs.declared.schema.SourceLine.{SourceLine}
use Rattle.access_schema.specs.declared.schema.Schema.{Schema}
use Rattle.world_source.specs.Formulas.{locator}

-- ---- the schema

-- a letter, and the digit of a number below ten behind it
abbrev pub lettered : List ℕ → ℕ → List ℕ
lettered letter k = letter ++ (48 + k) ∷ []

-- c1 to c8, the relations with the numbers 0 to 7
abbrev pub relation_name : ℕ → List ℕ
relation_name k = lettered (codes "c") k

abbrev pub method_name : ℕ → List ℕ
method_name k = lettered (codes "m") k

abbrev pub columns : List (List ℕ)
columns = codes "a" ∷ codes "b" ∷ []

abbrev pub sorts : List Sort
sorts = Text ∷ Text ∷ []

abbrev pub relation_with : ℕ → Relation
relation_with k = record { name = relation_name k; columns = columns; sorts = sorts }

abbrev pub world_relations : List Relation
world_relations = map relation_with (range_with_len 1 8)

-- a method of the relation, with these inputs
abbrev pub method_with : List ℕ → ℕ → Method
method_with inputs k = record { name = method_name k; rel = k - 1; inputs = inputs; cost = 1 }

-- the first relation is read whole, and each other one by its first column
abbrev pub world_methods : List Method
world_methods = method_with [] 1 ∷ map (method_with (0 ∷ [])) (range_with_len 2 7)

-- Where the relation leads from one value to a second, the next relation leads on from the second to some third. The rules stand behind eight
-- lines of relations and eight of methods.
abbrev pub rule_from : ℕ → Rule
rule_from k = record { line = 16 + k; body = record { rel = k - 1; terms = Var 0 ∷ Var 1 ∷ [] } ∷ []; head = record { rel = k; terms = Var 1 ∷ Var 2 ∷ [] } ∷ [] }

-- the rules of all relations but the last
abbrev pub world_rules : List Rule
world_rules = map rule_from (range_with_len 1 7)

abbrev pub source_with : ℕ → ℕ → SourceLine
source_with n k = record { rel = k - 1; kind = codes "world"; locator = locator k n }

abbrev pub world_sources : ℕ → List SourceLine
world_sources n = map (source_with n) (range_with_len 1 8)

-- The schema of the world of this size. It has no constants.
pub record IsWorldSchema (n : ℕ) (schema : Schema) : Type 0 where
  pub relations : schema.relations ≡ world_relations
  pub methods : schema.methods ≡ world_methods
  pub rules : schema.rules ≡ world_rules
  pub constants : schema.constants ≡ []
  pub sources : schema.sources ≡ world_sources n

-- ---- the statement

-- where a FROM item leads, the next one begins
abbrev pub joined : ℕ → Condition
joined k = record { left = Column k 1; right = Column (k + 1) 0 }

-- the first value of the first relation, and the second one of the last
abbrev pub world_select : Select
world_select = record {
  froms = range_with_len 0 8;
  conditions = map joined (range_with_len 0 7);
  items = Column 0 0 ∷ Column 7 1 ∷ [];
  names = columns;
}

abbrev pub world_statement : Statement
world_statement = record { selects = world_select ∷ [] }
