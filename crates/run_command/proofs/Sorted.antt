-- Claims on instances of integers: a plan that is equivalent on all models is so on these, and a pair of these that
-- refutes does so with whatever instances have the same facts.
use Rattle.std.proofs.Common.{ℕ, List}
use Rattle.meaning.specs.declared.types.SchemaParts.{SchemaParts}
use Rattle.meaning.specs.declared.types.Fact.{Fact}
use Rattle.meaning.specs.declared.types.Plan.{Plan}
use Rattle.meaning.specs.declared.types.Statement.{Statement}
use Rattle.meaning.specs.Instances.{IsWithin}
use Rattle.meaning.specs.Claims.{IsEquivalent}
use Rattle.meaning_laws.proofs.Members.{refutes_alike}
use Rattle.integer_laws.specs.Claimed.{IsSortedEquivalent, RefutesSorted}

-- what is so of all models is so of those of integers
pub sorted_equivalent : (schema : SchemaParts) (plan : Plan) (statement : Statement) →
    IsEquivalent plan statement schema → IsSortedEquivalent plan statement schema
sorted_equivalent schema plan statement is = record {
  sound = λ facts row model. is.sound facts row model.model;
  complete = λ facts row model. is.complete facts row model.model;
}

-- sorted instances refute wherever their facts are
pub refutes_sorted_alike : (schema : SchemaParts) (constants : List (List ℕ)) (statement : Statement)
    (first second other another : List Fact) (row : List (List ℕ)) →
    IsWithin first other → IsWithin other first → IsWithin second another → IsWithin another second →
    RefutesSorted schema constants statement first second row →
    RefutesSorted schema constants statement other another row
refutes_sorted_alike schema constants statement first second other another row there only others own is = record {
  refutes = refutes_alike schema constants statement first second other another row there only others own is.refutes;
  first_sorted = λ fact among. is.first_sorted fact (only fact among);
  second_sorted = λ fact among. is.second_sorted fact (own fact among);
}
