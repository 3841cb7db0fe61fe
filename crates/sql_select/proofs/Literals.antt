-- The known constants, one operand after another.
use Rattle.std.proofs.Common.{◌≡◌, ◌↔◌, ◌⊎◌, ℕ, List, [], ◌∷◌, ◌++◌, ap, sym, ◌∙◌, refl, ⊎_elim}
use Rattle.std.specs.Prelude.{Contains}
use Rattle.std.specs.List.{flat_map}
use Rattle.access_schema.specs.Lists.{once_after}
use Rattle.access_schema.proofs.Texts.{once_known, once_taken, once_from}
use Rattle.access_schema.proofs.Collected.{once_on}
use Rattle.meaning.specs.declared.types.Operand.{Operand}
use Rattle.meaning.specs.declared.types.Operand.TheVariants.{Column, Literal}
use Rattle.meaning.specs.declared.types.Condition.{Condition}
use Rattle.meaning.specs.declared.types.Select.{Select}
use Rattle.sql_select.specs.Known.{literal_in, literals_of_condition, literals_of, literals_in, with_operand, with_items, with_conditions, with_selects}

operand_is : (seen : List (List ℕ)) (o : Operand) → with_operand seen o ≡ once_after seen (literal_in o)
operand_is seen (Literal text) = refl
operand_is seen (Column from column) = refl

items_are : (seen : List (List ℕ)) (items : List Operand) → with_items seen items ≡ once_after seen (flat_map literal_in items)
items_are seen [] = refl
items_are seen (item ∷ items) = ap (λ s. with_items s items) (operand_is seen item) ∙ items_are (once_after seen (literal_in item)) items ∙ sym (once_on seen (literal_in item) (flat_map literal_in items))

conditions_are : (seen : List (List ℕ)) (conditions : List Condition) → with_conditions seen conditions ≡ once_after seen (flat_map literals_of_condition conditions)
conditions_are seen [] = refl
conditions_are seen (c ∷ conditions) =
    ap (λ s. with_conditions (with_operand s c.right) conditions) (operand_is seen c.left) ∙ ap (λ s. with_conditions s conditions) (operand_is (once_after seen (literal_in c.left)) c.right)
    ∙ ap (λ s. with_conditions s conditions) (sym (once_on seen (literal_in c.left) (literal_in c.right)))
    ∙ conditions_are (once_after seen (literal_in c.left ++ literal_in c.right)) conditions
    ∙ sym (once_on seen (literal_in c.left ++ literal_in c.right) (flat_map literals_of_condition conditions))

pub selects_are : (seen : List (List ℕ)) (selects : List Select) → with_selects seen selects ≡ once_after seen (literals_in selects)
selects_are seen [] = refl
selects_are seen (select ∷ selects) =
    ap (λ s. with_selects (with_conditions s select.conditions) selects) (items_are seen select.items)
    ∙ ap (λ s. with_selects s selects) (conditions_are (once_after seen (flat_map literal_in select.items)) select.conditions)
    ∙ ap (λ s. with_selects s selects) (sym (once_on seen (flat_map literal_in select.items) (flat_map literals_of_condition select.conditions)))
    ∙ selects_are (once_after seen (literals_of select)) selects
    ∙ sym (once_on seen (literals_of select) (literals_in selects))

pub holds_both : (first second : List (List ℕ)) (text : List ℕ) → Contains (once_after first second) text ↔ (Contains first text ⊎ Contains second text)
holds_both first second text = (once_from first second text, (λ h. ⊎_elim (once_known first second text) (once_taken first second text) h))
