-- The known constants of a statement over a schema are few: those of the schema, and a literal at most for each item
-- and each side of a condition.
use Rattle.std.proofs.Common.{◌≡◌, ℕ, ◌+◌, ◌*◌, ◌≤◌, List, [], ◌∷◌, ◌++◌, length, true, false, ⊎_elim, arith}
use Rattle.std.proofs.Common.{length-append}
use Rattle.std.specs.Prelude.{Contains}
use Rattle.std.specs.List.{flat_map}
use Rattle.std.proofs.lemmas.Bool.{cases_Bool}
use Rattle.lists.proofs.Members.{contains_here, contains_there}
use Rattle.meaning.specs.declared.types.Operand.{Operand}
use Rattle.meaning.specs.declared.types.Operand.TheVariants.{Column, Literal}
use Rattle.meaning.specs.declared.types.Condition.{Condition}
use Rattle.meaning.specs.declared.types.Select.{Select}
use Rattle.meaning.specs.declared.types.Statement.{Statement}
use Rattle.access_schema.specs.declared.schema.Schema.{Schema}
use Rattle.access_schema.specs.Lists.{is_among, once_after}
use Rattle.sql_select.specs.Known.{literal_in, literals_of_condition, literals_of, literals_in}
use Rattle.sql_select.specs.Statements.{IsBounded, StatementFits}
use Rattle.proof_search.specs.Plans.{known_of}
use Rattle.proof_search.specs.Questions.{MOST_KNOWN}

-- each text that comes after adds one at most
once_long : (known texts : List (List ℕ)) → length (once_after known texts) ≤ length known + length texts
once_long known [] = omega arith
once_long known (text ∷ texts) = ⊎_elim
    (λ (here : is_among known text ≡ true). rw here (let rest = once_long known texts in omega (arith, rest)))
    (λ (new : is_among known text ≡ false). rw new
    (let rest = once_long (known ++ text ∷ []) texts in
    let more = length-append known (text ∷ []) in
    omega (arith, rest, more)))
    (cases_Bool (is_among known text))

-- ---- the literals

literal_few : (operand : Operand) → length (literal_in operand) ≤ 1
literal_few (Literal text) = omega arith
literal_few (Column from column) = omega arith

items_few : (items : List Operand) → length (flat_map literal_in items) ≤ length items
items_few [] = omega arith
items_few (item ∷ items) =
    let first = literal_few item in
    let rest = items_few items in
    let both = length-append (literal_in item) (flat_map literal_in items) in
    omega (arith, first, rest, both)

conditions_few : (conditions : List Condition) →
    length (flat_map literals_of_condition conditions) ≤ 2 * length conditions
conditions_few [] = omega arith
conditions_few (condition ∷ conditions) =
    let left = literal_few condition.left in
    let right = literal_few condition.right in
    let sides = length-append (literal_in condition.left) (literal_in condition.right) in
    let rest = conditions_few conditions in
    let both = length-append (literals_of_condition condition) (flat_map literals_of_condition conditions) in
    omega (arith, left, right, sides, rest, both)

-- a select has 64 items and 64 conditions at most
select_few : (select : Select) → IsBounded select → length (literals_of select) ≤ 192
select_few select bounded =
    let most_items : length select.items ≤ 64 = bounded.items in
    let most_conditions : length select.conditions ≤ 64 = bounded.conditions in
    let items = items_few select.items in
    let conditions = conditions_few select.conditions in
    let both = length-append (flat_map literal_in select.items) (flat_map literals_of_condition select.conditions) in
    omega (arith, most_items, most_conditions, items, conditions, both)

selects_few : (selects : List Select) → ((select : Select) → Contains selects select → IsBounded select) →
    length (literals_in selects) ≤ 192 * length selects
selects_few [] bounded = omega arith
selects_few (select ∷ selects) bounded =
    let first = select_few select (bounded select (contains_here select selects)) in
    let rest = selects_few selects (λ other among. bounded other (contains_there select selects other among)) in
    let both = length-append (literals_of select) (literals_in selects) in
    omega (arith, first, rest, both)

-- ---- all known constants

pub known_few : (schema : Schema) (statement : Statement) → StatementFits schema statement →
    length (known_of schema statement) ≤ MOST_KNOWN
known_few schema statement fits =
    let declared : length schema.constants ≤ 1024 = schema.valid.constants_few in
    let selects : length statement.selects ≤ 16 = fits.few in
    let literals = selects_few statement.selects fits.bounded in
    let known = once_long schema.constants (literals_in statement.selects) in
    let most : length (known_of schema statement) ≤ 4096 = omega (arith, declared, selects, literals, known) in
    most
