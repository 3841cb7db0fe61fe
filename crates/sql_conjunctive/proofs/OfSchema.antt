-- A select is one over a schema where its FROM items, conditions and items are.
use Rattle.std.proofs.Common.{◌<◌, List, length, get_or}
use Rattle.std.specs.Prelude.{Contains, All}
use Rattle.std.proofs.lemmas.Option.{slice_get_within}
use Rattle.std.proofs.lemmas.List.Elements.{All-contains, Contains-get_or}
use Rattle.meaning.specs.declared.types.SchemaParts.{SchemaParts}
use Rattle.meaning.specs.declared.types.Fact.{Fact}
use Rattle.meaning.specs.Instances.{FitsRelation, IsInstance}
use Rattle.meaning.specs.declared.types.Select.{Select}
use Rattle.meaning.specs.Conjunctive.{OperandFits, SelectFits}
use Rattle.lists.proofs.Members.{got_below}
use Rattle.sql_conjunctive.specs.Fits.{ConditionFits}

-- what holds of each member holds of all
all_of : {X : Type 0} (P : X → Type 0) (xs : List X) → ((x : X) → Contains xs x → P x) → All P xs
all_of P xs each k d below = each (get_or xs k d) (Contains-get_or xs k d below)

module _ (schema : SchemaParts) where
  pub facts_from : (facts : List Fact) → All (λ (fact : Fact). FitsRelation schema fact.rel fact.row) facts → IsInstance schema facts
  facts_from facts all fact among = All-contains (λ (fact : Fact). FitsRelation schema fact.rel fact.row) facts fact all among

  pub facts_fit : (facts : List Fact) → IsInstance schema facts → All (λ (fact : Fact). FitsRelation schema fact.rel fact.row) facts
  facts_fit facts is = all_of (λ (fact : Fact). FitsRelation schema fact.rel fact.row) facts is

module _ (schema : SchemaParts) (select : Select) where
  pub fits_from : All (λ rel. rel < length schema.relations) select.froms → All (ConditionFits schema select) select.conditions → All (OperandFits schema select) select.items → SelectFits schema select
  fits_from froms conditions items = record {
    froms = λ rel among. got_below schema.relations rel (All-contains (λ rel. rel < length schema.relations) select.froms rel froms among);
    conditions = λ condition among. All-contains (ConditionFits schema select) select.conditions condition conditions among;
    items = λ item among. All-contains (OperandFits schema select) select.items item items among;
  }

  pub fits_froms : SelectFits schema select → All (λ rel. rel < length schema.relations) select.froms
  fits_froms fits = all_of (λ rel. rel < length schema.relations) select.froms (λ rel among. let (relation, at) = fits.froms rel among in slice_get_within schema.relations rel relation at)

  pub fits_conditions : SelectFits schema select → All (ConditionFits schema select) select.conditions
  fits_conditions fits = all_of (ConditionFits schema select) select.conditions fits.conditions

  pub fits_items : SelectFits schema select → All (OperandFits schema select) select.items
  fits_items fits = all_of (OperandFits schema select) select.items fits.items
