-- Operands and conditions of a select over a schema.
use Rattle.std.specs.Prelude.{◌≡◌, ◌<◌, ℕ, List, length, slice_get, Some}
use Rattle.meaning.specs.declared.types.Relation.{Relation}
use Rattle.meaning.specs.declared.types.SchemaParts.{SchemaParts}
use Rattle.meaning.specs.declared.types.Condition.{Condition}
use Rattle.meaning.specs.declared.types.Select.{Select}
use Rattle.meaning.specs.Conjunctive.{OperandFits}

-- The number is that of a column of the relation with the first number.
abbrev pub IsColumn : List Relation → ℕ → ℕ → Type 0
IsColumn relations rel column = (relation : Relation) × (slice_get relations rel ≡ Some relation) × (column < length relation.columns)

-- Both sides of the condition fit.
abbrev pub ConditionFits : SchemaParts → Select → Condition → Type 0
ConditionFits schema select condition = OperandFits schema select condition.left × OperandFits schema select condition.right
