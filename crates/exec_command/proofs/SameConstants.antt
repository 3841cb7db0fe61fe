-- Whether a plan is lawful, and its first fault, depend on which constants are known, and not on their order.
use Rattle.std.proofs.Common.{◌≡◌, ◌+◌, ℕ, List, [], ◌∷◌, inl, inr, take}
use Rattle.std.specs.Prelude.{Contains, IsOk, Result, Ok, Err}
use Rattle.meaning.specs.declared.types.Place.{Place}
use Rattle.meaning.specs.declared.types.Place.TheVariants.{Const, Col, New}
use Rattle.meaning.specs.declared.types.Out.{Out}
use Rattle.meaning.specs.declared.types.Out.TheVariants.{Const as Fixed, Col as Made}
use Rattle.meaning.specs.declared.types.Step.{Step}
use Rattle.meaning.specs.declared.types.Branch.{Branch}
use Rattle.meaning.specs.declared.types.Plan.{Plan}
use Rattle.meaning.specs.declared.types.Method.{Method}
use Rattle.meaning.specs.declared.types.SchemaParts.{SchemaParts}
use Rattle.meaning.specs.Plans.{made, AreLawfulPlaces, IsLawfulOut, IsLawfulStep, AreLawfulFrom, IsLawful}
use Rattle.plan_form.specs.declared.fault.PlanFaultKind.{PlanFaultKind}
use Rattle.plan_form.specs.declared.fault.PlanFault.{PlanFault}
use Rattle.plan_form.specs.Faults.{IsPlaceFault, HasPlaceFault, IsFaultOfMethod, IsStepFault, HasStepFault, made_by, IsOutFault, HasOutFault, IsOutputFault, IsBranchFault, IsFirstFault}

module _ (xs ys : List (List ℕ)) (to : (c : List ℕ) → Contains xs c → Contains ys c) where
  places_to : (inputs : List ℕ) (began p columns : ℕ) (places : List Place) →
      AreLawfulPlaces xs inputs began p columns places → AreLawfulPlaces ys inputs began p columns places
  places_to inputs began p columns [] are = tt
  places_to inputs began p columns (Const c ∷ places) are = (to c are.0, places_to inputs began (p + 1) columns places are.1)
  places_to inputs began p columns (Col k ∷ places) are = (are.0, are.1, places_to inputs began (p + 1) columns places are.2)
  places_to inputs began p columns (New ∷ places) are = (are.0, places_to inputs began (p + 1) (columns + 1) places are.1)

  out_to : (columns : ℕ) (out : Out) → IsLawfulOut xs columns out → IsLawfulOut ys columns out
  out_to columns (Fixed c) is = to c is
  out_to columns (Made k) is = is

  step_to : (schema : SchemaParts) (columns : ℕ) (step : Step) (method : Method) →
      IsLawfulStep schema xs columns step method → IsLawfulStep schema ys columns step method
  step_to schema columns step method is =
      record { named = is.named; arity = is.arity; places = places_to method.inputs columns 0 columns step.places is.places }

  steps_to : (schema : SchemaParts) (columns : ℕ) (steps : List Step) (output : List Out) →
      AreLawfulFrom schema xs columns steps output → AreLawfulFrom schema ys columns steps output
  steps_to schema columns [] output are = λ out among. out_to columns out (are out among)
  steps_to schema columns (step ∷ steps) output are =
      (are.0, step_to schema columns step are.0 are.1, steps_to schema (made columns step.places) steps output are.2)

  pub lawful_to : (plan : Plan) (schema : SchemaParts) → IsLawful plan schema xs → IsLawful plan schema ys
  lawful_to plan schema is = λ branch among. ((is branch among).0, steps_to schema 0 branch.steps branch.output (is branch among).1)

module _ (xs ys : List (List ℕ)) (to : (c : List ℕ) → Contains xs c → Contains ys c) (back : (c : List ℕ) → Contains ys c → Contains xs c) where
  place_fault_to : (inputs : List ℕ) (began p columns : ℕ) (place : Place) (kind : PlanFaultKind) →
      IsPlaceFault xs inputs began p columns place kind → IsPlaceFault ys inputs began p columns place kind
  place_fault_to inputs began p columns (Const c) kind is = (is.0, λ among. is.1 (back c among))
  place_fault_to inputs began p columns (Col k) kind is = is
  place_fault_to inputs began p columns New kind is = is

  places_fault_to : (inputs : List ℕ) (began : ℕ) (places : List Place) (p : ℕ) (kind : PlanFaultKind) →
      HasPlaceFault xs inputs began places p kind → HasPlaceFault ys inputs began places p kind
  places_fault_to inputs began places p kind has = record {
    place = has.place;
    at = has.at;
    before = places_to xs ys to inputs began 0 began (take p places) has.before;
    is = place_fault_to inputs began p (made began (take p places)) has.place kind has.is;
  }

  method_fault_to : (schema : SchemaParts) (columns : ℕ) (step : Step) (method : Method) (p : ℕ) (kind : PlanFaultKind) →
      IsFaultOfMethod schema xs columns step method p kind → IsFaultOfMethod schema ys columns step method p kind
  method_fault_to schema columns step method p kind (inl arity) = inl arity
  method_fault_to schema columns step method p kind (inr (fits, has)) = inr (fits, places_fault_to method.inputs columns step.places p kind has)

  step_fault_to : (schema : SchemaParts) (columns : ℕ) (step : Step) (p : ℕ) (kind : PlanFaultKind) →
      IsStepFault schema xs columns step p kind → IsStepFault schema ys columns step p kind
  step_fault_to schema columns step p kind (inl none) = inl none
  step_fault_to schema columns step p kind (inr (method, named, is)) = inr (method, named, method_fault_to schema columns step method p kind is)

  steps_fault_to : (schema : SchemaParts) (steps : List Step) (s p : ℕ) (kind : PlanFaultKind) →
      HasStepFault schema xs steps s p kind → HasStepFault schema ys steps s p kind
  steps_fault_to schema steps s p kind has = record {
    step = has.step;
    at = has.at;
    before = steps_to xs ys to schema 0 (take s steps) [] has.before;
    is = step_fault_to schema (made_by 0 (take s steps)) has.step p kind has.is;
  }

  out_fault_to : (columns : ℕ) (out : Out) (kind : PlanFaultKind) → IsOutFault xs columns out kind → IsOutFault ys columns out kind
  out_fault_to columns (Fixed c) kind is = (is.0, λ among. is.1 (back c among))
  out_fault_to columns (Made k) kind is = is

  outs_fault_to : (columns : ℕ) (outs : List Out) (p : ℕ) (kind : PlanFaultKind) → HasOutFault xs columns outs p kind → HasOutFault ys columns outs p kind
  outs_fault_to columns outs p kind has = record {
    out = has.out;
    at = has.at;
    before = λ earlier among. out_to xs ys to columns earlier (has.before earlier among);
    is = out_fault_to columns has.out kind has.is;
  }

  output_fault_to : (columns width : ℕ) (outs : List Out) (p : ℕ) (kind : PlanFaultKind) →
      IsOutputFault xs columns width outs p kind → IsOutputFault ys columns width outs p kind
  output_fault_to columns width outs p kind (inl arity) = inl arity
  output_fault_to columns width outs p kind (inr (fits, has)) = inr (fits, outs_fault_to columns outs p kind has)

  branch_fault_to : (schema : SchemaParts) (width : ℕ) (branch : Branch) (s p : ℕ) (kind : PlanFaultKind) →
      IsBranchFault schema xs width branch s p kind → IsBranchFault schema ys width branch s p kind
  branch_fault_to schema width branch s p kind (inl has) = inl (steps_fault_to schema branch.steps s p kind has)
  branch_fault_to schema width branch s p kind (inr (behind, lawful, is)) =
      inr (behind, steps_to xs ys to schema 0 branch.steps [] lawful, output_fault_to (made_by 0 branch.steps) width branch.output p kind is)

  pub fault_to : (plan : Plan) (schema : SchemaParts) (fault : PlanFault) → IsFirstFault plan schema xs fault → IsFirstFault plan schema ys fault
  fault_to plan schema fault first = record {
    branch = first.branch;
    at = first.at;
    before = λ earlier among. (
      (first.before earlier among).0,
      steps_to xs ys to schema 0 earlier.steps earlier.output (first.before earlier among).1,
    );
    is = branch_fault_to schema plan.width first.branch fault.step fault.place fault.kind first.is;
  }

-- a fault is no value
pub no_value : {E : Type 0} (result : Result (Unit {0}) E) (fault : E) → result ≡ Err fault → IsOk result → ⊥
no_value (Ok value) fault is ok = absurd (cc)
no_value (Err other) fault is ok = absurd (cc)
