-- The branch that is read off exposures costs what they cost.
use Rattle.std.proofs.Common.{ℕ, List, [], ◌∷◌, refl}
use Rattle.std.specs.Prelude.{Contains}
use Rattle.lists.proofs.Members.{contains_here, contains_there}
use Rattle.meaning.specs.declared.types.Val.{Val}
use Rattle.meaning.specs.declared.types.SchemaParts.{SchemaParts}
use Rattle.meaning.specs.Costs.{IsStepsCost, IsCost}
use Rattle.meaning.specs.Extract.{Exposure, exposures_cost, steps_of, columns_after, branch_of}

steps_cost : (schema : SchemaParts) (columns : List ℕ) (exposures : List Exposure) → ((e : Exposure) → Contains exposures e → Contains schema.methods e.method) → IsStepsCost schema (steps_of columns exposures) (exposures_cost exposures)
steps_cost schema columns [] are = refl
steps_cost schema columns (e ∷ exposures) are =
    (e.method, exposures_cost exposures, (are e (contains_here e exposures), refl), steps_cost schema (columns_after columns e.fact.vals) exposures (λ x c. are x (contains_there e exposures x c)), refl)

pub branch_cost : (schema : SchemaParts) (exposures : List Exposure) (head : List Val) → ((e : Exposure) → Contains exposures e → Contains schema.methods e.method) → IsCost schema (branch_of exposures head) (exposures_cost exposures)
branch_cost schema exposures head are = steps_cost schema [] exposures are
