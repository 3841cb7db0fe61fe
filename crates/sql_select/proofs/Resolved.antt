-- What looking up the names of a select says.
use Rattle.std.proofs.Common.{ℕ, List, [], subst, refl, inl, inr}
use Rattle.std.specs.Prelude.{Option, Some, None, Result, Ok, Err, IfOk, IfErr}
use Rattle.std.proofs.lemmas.List.Elements.{Contains-append_left, Contains-append_right}
use Rattle.meaning.specs.declared.types.Relation.{Relation}
use Rattle.meaning.specs.declared.types.Select.{Select}
use Rattle.sql_select.specs.declared.named.NamedSelect.{NamedSelect}
use Rattle.sql_select.specs.declared.named.NameFault.{NameFault}
use Rattle.sql_select.specs.declared.fault.SqlFault.{SqlFault}
use Rattle.sql_select.specs.declared.fault.SqlFault.TheVariants as fault
use Rattle.sql_select.specs.Names.{AreFroms, IsFromFault, IsColumnFault, IsMeaning, IsNameFault, operands_of}
use Rattle.sql_select.specs.Resolving.{from_fault, rels_of, column_fault, item_operands, condition_operands}
use Rattle.sql_select.specs.Select.{columns_fault, meant_select, select_unless, after_froms, resolved, Resolves, IsNamingFault}
use Rattle.sql_select.proofs.Earliest.{Answers, same_answer}
use Rattle.sql_select.proofs.FromFaults.{froms_answer, are_froms}
use Rattle.sql_select.proofs.ColumnFaults.{In, operands_answer, items_meant, conditions_meant, to_columns, from_columns, fault_append}

module _ (relations : List Relation) (parts : NamedSelect) where
  columns_answer : (rels : List ℕ) → AreFroms relations parts.froms rels → Answers (IsColumnFault relations rels parts) (columns_fault relations rels parts)
  columns_answer rels are =
      let whole = fault_append relations rels parts.froms None (item_operands parts.items) (condition_operands parts.conditions) in
      let said = same_answer (In relations rels parts.froms (operands_of parts)) (IsColumnFault relations rels parts) (λ f h. to_columns relations rels parts.froms parts refl f h) (λ f h. from_columns relations rels parts.froms parts refl f h)
      (column_fault relations rels parts.froms None (operands_of parts)) (operands_answer relations rels parts.froms are.differ (operands_of parts)) in
      subst (λ (r : Option NameFault). Answers (IsColumnFault relations rels parts) r) whole said

  meaning_of_clean : (rels : List ℕ) → AreFroms relations parts.froms rels → ((f : NameFault) → IsColumnFault relations rels parts f → ⊥) → IsMeaning relations parts (meant_select relations rels parts)
  meaning_of_clean rels are none = record {
    froms = are;
    items = items_meant relations rels parts.froms are.differ parts.items (λ f (o, c, h). none f (to_columns relations rels parts.froms parts refl f (o, Contains-append_left (item_operands parts.items) (condition_operands parts.conditions) o c, h)));
    conditions = conditions_meant relations rels parts.froms are.differ parts.conditions (λ f (o, c, h). none f (to_columns relations rels parts.froms parts refl f (o, Contains-append_right (item_operands parts.items) (condition_operands parts.conditions) o c, h)));
    names = refl;
  }

  -- a reading is right about each outcome
  abbrev IsRight : Result Select NameFault → Type 0
  IsRight (Ok select) = IsMeaning relations parts select
  IsRight (Err f) = IsNameFault relations parts f

  is_right : IsRight (resolved relations parts)
  is_right = go (from_fault relations [] None parts.froms) (froms_answer relations parts.froms)
    where
      columns : (rels : List ℕ) → AreFroms relations parts.froms rels → (r : Option NameFault) → Answers (IsColumnFault relations rels parts) r → IsRight (select_unless r (meant_select relations rels parts))
      columns rels are None none = meaning_of_clean rels are none
      columns rels are (Some f) said = inr (rels, are, said)

      go : (r : Option NameFault) → Answers (IsFromFault relations parts.froms) r → IsRight (after_froms r relations parts)
      go (Some f) said = inl said
      go None none =
          let are = are_froms relations parts.froms none in
          let rels : List ℕ = rels_of relations parts.froms in
          columns rels are (columns_fault relations rels parts) (columns_answer rels are)

  pub means : (result : Result Select SqlFault) → Resolves result (resolved relations parts) → IfOk result (IsMeaning relations parts)
  means (Ok select) e = subst IsRight e is_right
  means (Err f) e = tt

  pub naming_fault : (result : Result Select SqlFault) → Resolves result (resolved relations parts) → IfErr result (IsNamingFault relations parts)
  naming_fault (Ok select) e = tt
  naming_fault (Err fault.NoMemory) e = tt
  naming_fault (Err (fault.UnknownName offset)) e = subst IsRight e is_right
  naming_fault (Err (fault.Ambiguous offset)) e = subst IsRight e is_right
  naming_fault (Err _) e = absurd e
