-- The known constants of a statement over a schema.
use Rattle.std.specs.Prelude.{ℕ, List, [], ◌∷◌, ◌++◌}
use Rattle.std.specs.List.{flat_map}
use Rattle.access_schema.specs.Lists.{once_after}
use Rattle.meaning.specs.declared.types.Operand.{Operand}
use Rattle.meaning.specs.declared.types.Operand.TheVariants.{Column, Literal}
use Rattle.meaning.specs.declared.types.Condition.{Condition}
use Rattle.meaning.specs.declared.types.Select.{Select}

abbrev pub literal_in : Operand → List (List ℕ)
literal_in (Literal text) = text ∷ []
literal_in (Column from column) = []

abbrev pub literals_of_condition : Condition → List (List ℕ)
literals_of_condition c = literal_in c.left ++ literal_in c.right

-- the literals of a select in the order of its text: items, then conditions
abbrev pub literals_of : Select → List (List ℕ)
literals_of select = flat_map literal_in select.items ++ flat_map literals_of_condition select.conditions

abbrev pub literals_in : List Select → List (List ℕ)
literals_in selects = flat_map literals_of selects

-- ---- the same, one operand after another

abbrev pub with_operand : List (List ℕ) → Operand → List (List ℕ)
with_operand seen (Literal text) = once_after seen (text ∷ [])
with_operand seen (Column from column) = seen

abbrev pub with_items : List (List ℕ) → List Operand → List (List ℕ)
with_items seen [] = seen
with_items seen (item ∷ items) = with_items (with_operand seen item) items

abbrev pub with_conditions : List (List ℕ) → List Condition → List (List ℕ)
with_conditions seen [] = seen
with_conditions seen (condition ∷ conditions) = with_conditions (with_operand (with_operand seen condition.left) condition.right) conditions

abbrev pub with_selects : List (List ℕ) → List Select → List (List ℕ)
with_selects seen [] = seen
with_selects seen (select ∷ selects) = with_selects (with_conditions (with_items seen select.items) select.conditions) selects
