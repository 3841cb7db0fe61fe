-- What the definitions of plans, answers and runs read of a schema: all but its source lines.
use Rattle.meaning.specs.declared.types.SchemaParts.{SchemaParts}
use Rattle.access_schema.specs.declared.schema.Schema.{Schema}

-- the relations, methods, rules and constants of the schema
abbrev pub meaning_of : Schema → SchemaParts
meaning_of schema = record { relations = schema.relations; methods = schema.methods; rules = schema.rules; constants = schema.constants }
