-- What the steps of a branch name, and what they cost. Crates above cite these lemmas.
use Rattle.std.proofs.Common.{◌≡◌, ◌⊎◌, ◌∙◌, ℕ, List, [], ◌∷◌, sym, subst, inl, inr, arith}
use Rattle.std.specs.Prelude.{Contains}
use Rattle.lists.proofs.Members.{contains_cases}
use Rattle.meaning.specs.declared.types.SchemaParts.{SchemaParts}
use Rattle.meaning.specs.declared.types.Method.{Method}
use Rattle.meaning.specs.declared.types.Step.{Step}
use Rattle.meaning.specs.declared.types.Out.{Out}
use Rattle.meaning.specs.Values.{Value}
use Rattle.meaning.specs.Plans.{IsWellFormed, IsMethod, NamesMethods, AreLawfulFrom, made}
use Rattle.meaning.specs.Costs.{IsStepsCost}

pub cost_once : (schema : SchemaParts) → IsWellFormed schema → (steps : List Step) (cost other : ℕ) → IsStepsCost schema steps cost → IsStepsCost schema steps other → cost ≡ other
cost_once schema well [] cost other here there = here ∙ sym there
cost_once schema well (step ∷ steps) cost other (method, rest, named, costs, is) (method', rest', named', costs', is') =
    let same = well.once method method' named.0 named'.0 (named.1 ∙ sym named'.1) in
    let later = cost_once schema well steps rest rest' costs costs' in
    cc

-- the steps of a lawful branch
of_first : (schema : SchemaParts) (first step : Step) (steps : List Step) (method : Method) → IsMethod schema first.method method → NamesMethods schema steps →
    (first ≡ step) ⊎ Contains steps step → (its : Method) × IsMethod schema step.method its
of_first schema first step steps method named later (inl same) = (method, subst (λ (s : Step). IsMethod schema s.method method) same named)
of_first schema first step steps method named later (inr there) = later step there

pub lawful_named : (schema : SchemaParts) (constants : List Value) (columns : ℕ) (steps : List Step) (output : List Out) → AreLawfulFrom schema constants columns steps output → NamesMethods schema steps
lawful_named schema constants columns [] output lawful = λ step there. absurd (omega (arith, there.1))
lawful_named schema constants columns (first ∷ steps) output lawful =
    let later = lawful_named schema constants (made columns first.places) steps output lawful.2 in
    λ step there. of_first schema first step steps lawful.0 lawful.1.named later (contains_cases first steps step there)
