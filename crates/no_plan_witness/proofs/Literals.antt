-- Texts that have the literals of selects have those of each of the selects.
use Rattle.std.proofs.Common.{◌≡◌, ◌⊎◌, List, [], sym, subst, ⊎_elim}
use Rattle.std.specs.Prelude.{Contains}
use Rattle.std.specs.List.{flat_map}
use Rattle.std.proofs.lemmas.List.Elements.{Contains-append_left, Contains-append_right}
use Rattle.lists.proofs.Members.{contains_here, contains_joined}
use Rattle.meaning.specs.declared.types.Condition.{Condition}
use Rattle.meaning.specs.declared.types.Operand.TheVariants.{Literal}
use Rattle.meaning.specs.declared.types.Select.{Select}
use Rattle.meaning.specs.Values.{Value}
use Rattle.sql_conjunctive.specs.Form.{HaveLiterals}
use Rattle.sql_select.specs.Known.{literal_in, literals_of_condition, literals_of, literals_in}

module _ (selects : List Select) (select : Select) (among : Contains selects select) where
  in_select : (c : Value) → Contains (literals_of select) c → Contains (literals_in selects) c
  in_select c i = contains_joined literals_of selects select c among i

  in_items : (c : Value) → Contains select.items (Literal c) → Contains (literals_of select) c
  in_items c i = Contains-append_left (flat_map literal_in select.items) (flat_map literals_of_condition select.conditions) c (contains_joined literal_in select.items (Literal c) c i (contains_here c []))

  in_conditions : (condition : Condition) (c : Value) → Contains select.conditions condition → (condition.left ≡ Literal c) ⊎ (condition.right ≡ Literal c) → Contains (literals_of select) c
  in_conditions condition c i side =
      Contains-append_right (flat_map literal_in select.items) (flat_map literals_of_condition select.conditions) c
      (contains_joined literals_of_condition select.conditions condition c i
      (⊎_elim (λ left. Contains-append_left (literal_in condition.left) (literal_in condition.right) c (subst (λ o. Contains (literal_in o) c) (sym left) (contains_here c [])))
      (λ right. Contains-append_right (literal_in condition.left) (literal_in condition.right) c (subst (λ o. Contains (literal_in o) c) (sym right) (contains_here c []))) side))

  pub have_literals : (known : List Value) → ((text : Value) → Contains (literals_in selects) text → Contains known text) → HaveLiterals known select
  have_literals known have = record {
    items = λ c i. have c (in_select c (in_items c i));
    conditions = λ condition c i side. have c (in_select c (in_conditions condition c i side));
  }
