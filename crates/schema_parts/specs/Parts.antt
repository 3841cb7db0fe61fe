-- Parts of schemas: the same relations, methods and constants, with some of the rules.
use Rattle.std.specs.Prelude.{List, Bool, Contains, map}
use Rattle.std.specs.List.{filter, zip}
use Rattle.meaning.specs.declared.types.Rule.{Rule}
use Rattle.meaning.specs.declared.types.SchemaParts.{SchemaParts}

-- The schema with these rules alone.
abbrev pub with_rules : SchemaParts → List Rule → SchemaParts
with_rules whole rules = record whole { rules = rules }

-- Each of the rules is one of the schema's.
abbrev pub AreSome : SchemaParts → List Rule → Type 0
AreSome whole rules = (rule : Rule) → Contains rules rule → Contains whole.rules rule

-- The members beside which a mark is set, in order.
abbrev pub marked : {X : Type 0} → List X → List Bool → List X
marked members marks = map (λ pair. pair.0) (filter (λ pair. pair.1) (zip members marks))
