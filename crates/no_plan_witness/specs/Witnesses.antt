-- The refutation that two lists of labelled facts give.
use Rattle.std.specs.Prelude.{◌≡◌, List, ◌++◌, map}
use Rattle.meaning.specs.declared.types.Ground.{Ground}
use Rattle.meaning.specs.declared.types.Val.{Val}
use Rattle.meaning.specs.declared.types.SchemaParts.{SchemaParts}
use Rattle.meaning.specs.Values.{Value}
use Rattle.meaning.specs.Homomorphisms.{image, renamed}
use Rattle.findings.specs.declared.refutation.Witness.{Witness}
use Rattle.no_plan_witness.specs.Texts.{Names, text_under, AreNamesFor}

-- The pair is the facts of both lists, with the texts of their labels, and the answer is the head with these.
pub record IsWitnessOf (schema : SchemaParts) (constants : List Value) (first second : List Ground) (head : List Val) (pair : Witness) : Type 0 where
  pub names : Names
  pub named : AreNamesFor schema constants (first ++ second) names
  pub first_is : pair.first ≡ renamed (text_under names) first
  pub second_is : pair.second ≡ renamed (text_under names) second
  pub answer : pair.answer ≡ map (image (text_under names)) head
