-- A statement that is read fits the schema and the limits.
use Rattle.std.proofs.Common.{◌≡◌, ℕ, suc, ◌≤◌, ◌+◌, List, [], ◌∷◌, length, ap, subst, sym, ◌∙◌, refl, arith, ⊎_elim}
use Rattle.std.specs.Prelude.{Contains, Some, slice_get}
use Rattle.std.specs.List.{AllZip}
use Rattle.std.proofs.lemmas.Slice.Zip.{AllZip-long}
use Rattle.std.proofs.lemmas.Option.{slice_get_within}
use Rattle.std.proofs.lemmas.List.{length-map}
use Rattle.lists.proofs.Members.{contains_here, contains_there, contains_cases, got_mapped, contains_none}
use Rattle.meaning.specs.declared.types.Relation.{Relation}
use Rattle.meaning.specs.declared.types.Operand.{Operand}
use Rattle.meaning.specs.declared.types.Operand.TheVariants.{Column, Literal}
use Rattle.meaning.specs.declared.types.Condition.{Condition}
use Rattle.meaning.specs.declared.types.Select.{Select}
use Rattle.meaning.specs.declared.types.Statement.{Statement}
use Rattle.meaning.specs.Conjunctive.{OperandFits, SelectFits}
use Rattle.access_schema.specs.declared.schema.Schema.{Schema}
use Rattle.access_schema.specs.Meaning.{meaning_of}
use Rattle.access_schema.specs.Names.{relation_names}
use Rattle.sql_select.specs.declared.piece.RawItem.{RawItem}
use Rattle.sql_select.specs.declared.piece.RawSelect.{RawSelect}
use Rattle.sql_select.specs.declared.named.NamedOperand.{NamedOperand}
use Rattle.sql_select.specs.declared.named.NamedOperand.TheVariants as named
use Rattle.sql_select.specs.declared.named.NamedItem.{NamedItem}
use Rattle.sql_select.specs.declared.named.NamedFrom.{NamedFrom}
use Rattle.sql_select.specs.declared.named.NamedCondition.{NamedCondition}
use Rattle.sql_select.specs.declared.named.NamedSelect.{NamedSelect}
use Rattle.sql_select.specs.Naming.{named_from, named_items, named_condition, named_select}
use Rattle.sql_select.specs.Names.{IsMeant, IsMeaning}
use Rattle.sql_select.specs.Limits.{IsWithinLimits}
use Rattle.sql_select.specs.Statements.{Means, IsStatementText, IsBounded, StatementFits}
use Rattle.sql_select.proofs.Wide.{alike_all}

items_long : (text : List ℕ) (place : ℕ) (items : List RawItem) → length (named_items text place items) ≡ length items
items_long text place [] = refl
items_long text place (item ∷ items) = ap (λ n. suc n) (items_long text (place + 1) items)

some_long : {X : Type 0} (xs : List X) → (xs ≡ [] → ⊥) → 1 ≤ length xs
some_long [] some = absurd (some refl)
some_long (x ∷ xs) some = omega arith

module _ (schema : Schema) (parts : NamedSelect) (select : Select) (is : IsMeaning schema.relations parts select) where
  operand_fits : (o : NamedOperand) (p : Operand) → IsMeant schema.relations select.froms parts.froms o p → OperandFits (meaning_of schema) select p
  operand_fits o (Literal text) means = tt
  operand_fits (named.Literal v) (Column from column) means = absurd means
  operand_fits (named.Plain n) (Column from column) ((rel, relation, got, got', at), only) = (rel, relation, got, got', slice_get_within relation.columns column n.text at)
  operand_fits (named.Prefixed p n) (Column from column) (name, (rel, relation, got, got', at)) = (rel, relation, got, got', slice_get_within relation.columns column n.text at)

  froms_fit : (froms : List NamedFrom) (rels : List ℕ) (rel : ℕ) → AllZip (λ (from : NamedFrom) (rel : ℕ). slice_get (relation_names schema.relations) rel ≡ Some from.relation.text) froms rels → Contains rels rel →
      (relation : Relation) × (slice_get schema.relations rel ≡ Some relation)
  froms_fit froms [] rel zip c = absurd (contains_none rel c)
  froms_fit [] (r ∷ rels) rel zip c = absurd zip
  froms_fit (from ∷ froms) (r ∷ rels) rel (at, zip) c = ⊎_elim
      (λ e. let (relation, got, _) = got_mapped (λ (relation : Relation). relation.name) schema.relations r from.relation.text at in (relation, subst (λ k. slice_get schema.relations k ≡ Some relation) e got))
      (λ later. froms_fit froms rels rel zip later)
      (contains_cases r rels rel c)

  items_fit : (items : List NamedItem) (os : List Operand) (o : Operand) → AllZip (λ (item : NamedItem) (p : Operand). IsMeant schema.relations select.froms parts.froms item.operand p) items os → Contains os o → OperandFits (meaning_of schema) select o
  items_fit items [] o zip c = absurd (contains_none o c)
  items_fit [] (p ∷ os) o zip c = absurd zip
  items_fit (item ∷ items) (p ∷ os) o (h, zip) c = ⊎_elim (λ e. subst (λ (q : Operand). OperandFits (meaning_of schema) select q) e (operand_fits item.operand p h)) (λ later. items_fit items os o zip later) (contains_cases p os o c)

  conditions_fit : (cs : List NamedCondition) (ds : List Condition) (d : Condition) →
      AllZip (λ (c : NamedCondition) (d : Condition). IsMeant schema.relations select.froms parts.froms c.left d.left × IsMeant schema.relations select.froms parts.froms c.right d.right) cs ds → Contains ds d →
      OperandFits (meaning_of schema) select d.left × OperandFits (meaning_of schema) select d.right
  conditions_fit cs [] d zip c = absurd (contains_none d c)
  conditions_fit [] (e ∷ ds) d zip c = absurd zip
  conditions_fit (c ∷ cs) (e ∷ ds) d (h, zip) m = ⊎_elim
      (λ same. subst (λ (q : Condition). OperandFits (meaning_of schema) select q.left × OperandFits (meaning_of schema) select q.right) same (operand_fits c.left e.left h.0, operand_fits c.right e.right h.1))
      (λ later. conditions_fit cs ds d zip later)
      (contains_cases e ds d m)

  pub select_fits : SelectFits (meaning_of schema) select
  select_fits = record {
    froms = λ rel c. froms_fit parts.froms select.froms rel is.froms.relations_are c;
    conditions = λ d c. conditions_fit parts.conditions select.conditions d is.conditions c;
    items = λ o c. items_fit parts.items select.items o is.items c;
  }

-- a select has as many items as the one that is written
as_wide : (relations : List Relation) (bytes : List ℕ) (raw : RawSelect) (select : Select) → Means relations bytes raw select → length select.items ≡ length raw.items
as_wide relations bytes raw select means = AllZip-long _ (named_select bytes raw).items select.items means.items ∙ items_long bytes 1 raw.items

bounded : (schema : Schema) (bytes : List ℕ) (raw : RawSelect) (select : Select) → Means schema.relations bytes raw select → IsWithinLimits raw → (raw.items ≡ [] → ⊥) → (raw.froms ≡ [] → ⊥) → IsBounded select
bounded schema bytes raw select means within has_items has_froms =
    let items : length select.items ≡ length raw.items = as_wide schema.relations bytes raw select means in
    let froms : length select.froms ≡ length raw.froms = AllZip-long _ (named_select bytes raw).froms select.froms means.froms.relations_are ∙ length-map raw.froms (named_from bytes) in
    let conditions : length select.conditions ≡ length raw.conditions = AllZip-long _ (named_select bytes raw).conditions select.conditions means.conditions ∙ length-map raw.conditions (named_condition bytes) in
    let names : length select.names ≡ length raw.items = ap length means.names ∙ length-map (named_select bytes raw).items (λ (item : NamedItem). item.name) ∙ items_long bytes 1 raw.items in
    let some_items = some_long raw.items has_items in
    let some_froms = some_long raw.froms has_froms in
    let few_items = within.items in
    let few_froms = within.froms in
    let few_conditions = within.conditions in
    record {
      some_items = omega (arith, items, some_items);
      items = omega (arith, items, few_items);
      names = names ∙ sym items;
      some_froms = omega (arith, froms, some_froms);
      froms = omega (arith, froms, few_froms);
      conditions = omega (arith, conditions, few_conditions);
    }

-- each select of a statement is what a written one means
meant : (schema : Schema) (bytes : List ℕ) (raws : List RawSelect) (selects : List Select) (select : Select) → AllZip (Means schema.relations bytes) raws selects → Contains selects select →
    (raw : RawSelect) × Contains raws raw × Means schema.relations bytes raw select
meant schema bytes raws [] select z c = absurd (contains_none select c)
meant schema bytes [] (x ∷ xs) select z c = absurd z
meant schema bytes (raw ∷ raws) (x ∷ xs) select (m, z) c = ⊎_elim
    (λ e. (raw, contains_here raw raws, subst (λ (s : Select). Means schema.relations bytes raw s) e m))
    (λ h. let (other, among, means) = meant schema bytes raws xs select z h in (other, contains_there raw raws other among, means))
    (contains_cases x xs select c)

pub statement_fits : (schema : Schema) (bytes : List ℕ) (statement : Statement) → IsStatementText schema bytes statement → StatementFits schema statement
statement_fits schema bytes statement is = record {
  some = let long = AllZip-long _ is.raws statement.selects is.means in let some = is.written.text.some in omega (arith, long, some);
  few = let long = AllZip-long _ is.raws statement.selects is.means in let few = is.within.few in omega (arith, long, few);
  wide = λ first second c d.
      let (raw, among, means) = meant schema bytes is.raws statement.selects first is.means c in
      let (other, among', means') = meant schema bytes is.raws statement.selects second is.means d in
      as_wide schema.relations bytes raw first means ∙ alike_all is.raws raw other is.wide among among' ∙ sym (as_wide schema.relations bytes other second means');
  fits = λ select c. let (raw, among, means) = meant schema bytes is.raws statement.selects select is.means c in select_fits schema (named_select bytes raw) select means;
  bounded = λ select c.
      let (raw, among, means) = meant schema bytes is.raws statement.selects select is.means c in
      bounded schema bytes raw select means (is.within.each raw among) (is.written.text.items raw among) (is.written.text.froms raw among);
  sorted = is.sorted;
}
