-- A lawful plan has no fault: what a fault says of a place, a step or an output contradicts that it is lawful.
use Rattle.std.proofs.Common.{◌≡◌, ◌+◌, ℕ, zero, suc, List, [], ◌∷◌, length, take, Some, sym, ◌∙◌, subst, arith, inl, inr}
use Rattle.std.specs.Prelude.{Contains, slice_get}
use Rattle.meaning.specs.declared.types.Method.{Method}
use Rattle.meaning.specs.declared.types.SchemaParts.{SchemaParts}
use Rattle.meaning.specs.declared.types.Place.{Place}
use Rattle.meaning.specs.declared.types.Place.TheVariants.{Const, Col, New}
use Rattle.meaning.specs.declared.types.Out.{Out}
use Rattle.meaning.specs.declared.types.Out.TheVariants.{Const as Fixed, Col as Made}
use Rattle.meaning.specs.declared.types.Step.{Step}
use Rattle.meaning.specs.declared.types.Plan.{Plan}
use Rattle.meaning.specs.Plans.{IsWellFormed, made, AreLawfulPlaces, IsLawfulOut, IsLawfulStep, AreLawfulFrom, IsLawful}
use Rattle.lists.proofs.Members.{contains_got, some_injective, none_some}
use Rattle.plan_form.specs.declared.fault.PlanFaultKind.{PlanFaultKind}
use Rattle.plan_form.specs.declared.fault.PlanFault.{PlanFault}
use Rattle.plan_form.specs.Faults.{IsPlaceFault, IsFaultOfMethod, IsStepFault, made_by, IsOutFault, IsOutputFault, IsBranchFault, IsFirstFault}

-- ---- places

this_place : (constants : List (List ℕ)) (inputs : List ℕ) (began p columns : ℕ) (kind : PlanFaultKind) (place : Place) (places : List Place) →
    AreLawfulPlaces constants inputs began p columns (place ∷ places) → IsPlaceFault constants inputs began p columns place kind → ⊥
this_place constants inputs began p columns kind (Const c) places lawful fault = fault.1 lawful.0
this_place constants inputs began p columns kind (Col k) places lawful (inl fault) = let there = lawful.0 in let none = fault.1 in omega (arith, there, none)
this_place constants inputs began p columns kind (Col k) places lawful (inr fault) = let known = lawful.1 fault.1 in let late = fault.3 in omega (arith, known, late)
this_place constants inputs began p columns kind New places lawful fault = lawful.0 fault.1

place_clash : (constants : List (List ℕ)) (inputs : List ℕ) (began columns q p r : ℕ) (kind : PlanFaultKind) (places : List Place) (place : Place) → r ≡ q + p → slice_get places p ≡ Some place →
    AreLawfulPlaces constants inputs began q columns places → IsPlaceFault constants inputs began r (made columns (take p places)) place kind → ⊥
place_clash constants inputs began columns q p r kind [] place e at lawful fault = none_some place at
place_clash constants inputs began columns q zero r kind (x ∷ xs) place e at lawful fault =
    let same : x ≡ place = some_injective x place at in
    let here : r ≡ q = omega (arith, e) in
    this_place constants inputs began q columns kind x xs lawful
    (subst (λ (y : Place). IsPlaceFault constants inputs began q columns y kind) (sym same) (subst (λ (n : ℕ). IsPlaceFault constants inputs began n columns place kind) here fault))
place_clash constants inputs began columns q (suc p) r kind (Const c ∷ xs) place e at lawful fault =
    place_clash constants inputs began columns (q + 1) p r kind xs place (omega (arith, e)) at lawful.1 fault
place_clash constants inputs began columns q (suc p) r kind (Col k ∷ xs) place e at lawful fault =
    place_clash constants inputs began columns (q + 1) p r kind xs place (omega (arith, e)) at lawful.2 fault
place_clash constants inputs began columns q (suc p) r kind (New ∷ xs) place e at lawful fault =
    place_clash constants inputs began (columns + 1) (q + 1) p r kind xs place (omega (arith, e)) at lawful.1 fault

-- ---- steps

method_clash : (schema : SchemaParts) (constants : List (List ℕ)) (columns : ℕ) (step : Step) (method : Method) (p : ℕ) (kind : PlanFaultKind) →
    IsLawfulStep schema constants columns step method → IsFaultOfMethod schema constants columns step method p kind → ⊥
method_clash schema constants columns step method p kind lawful (inl fault) = fault.2 lawful.arity
method_clash schema constants columns step method p kind lawful (inr fault) =
    let h = fault.1 in
    place_clash constants method.inputs columns columns 0 p p kind step.places h.place (omega arith) h.at lawful.places h.is

this_step : (schema : SchemaParts) (constants : List (List ℕ)) (columns : ℕ) (step : Step) (method : Method) (p : ℕ) (kind : PlanFaultKind) → IsWellFormed schema →
    IsLawfulStep schema constants columns step method → IsStepFault schema constants columns step p kind → ⊥
this_step schema constants columns step method p kind formed lawful (inl fault) = fault.2 method lawful.named
this_step schema constants columns step method p kind formed lawful (inr fault) =
    let same : fault.0 ≡ method = formed.once fault.0 method fault.1.0 lawful.named.0 (fault.1.1 ∙ sym lawful.named.1) in
    method_clash schema constants columns step method p kind lawful (subst (λ (m : Method). IsFaultOfMethod schema constants columns step m p kind) same fault.2)

step_clash : (schema : SchemaParts) (constants : List (List ℕ)) (columns : ℕ) (steps : List Step) (output : List Out) (s : ℕ) (step : Step) (p : ℕ) (kind : PlanFaultKind) → IsWellFormed schema →
    slice_get steps s ≡ Some step → AreLawfulFrom schema constants columns steps output → IsStepFault schema constants (made_by columns (take s steps)) step p kind → ⊥
step_clash schema constants columns [] output s step p kind formed at lawful fault = none_some step at
step_clash schema constants columns (x ∷ xs) output zero step p kind formed at lawful fault =
    let same : x ≡ step = some_injective x step at in
    this_step schema constants columns x lawful.0 p kind formed lawful.1 (subst (λ (y : Step). IsStepFault schema constants columns y p kind) (sym same) fault)
step_clash schema constants columns (x ∷ xs) output (suc s) step p kind formed at lawful fault =
    step_clash schema constants (made columns x.places) xs output s step p kind formed at lawful.2 fault

-- ---- outputs

outs_of : (schema : SchemaParts) (constants : List (List ℕ)) (columns : ℕ) (steps : List Step) (output : List Out) → AreLawfulFrom schema constants columns steps output →
    (out : Out) → Contains output out → IsLawfulOut constants (made_by columns steps) out
outs_of schema constants columns [] output lawful = lawful
outs_of schema constants columns (step ∷ steps) output lawful = outs_of schema constants (made columns step.places) steps output lawful.2

this_out : (constants : List (List ℕ)) (columns : ℕ) (out : Out) (kind : PlanFaultKind) → IsLawfulOut constants columns out → IsOutFault constants columns out kind → ⊥
this_out constants columns (Fixed c) kind lawful fault = fault.1 lawful
this_out constants columns (Made k) kind lawful fault = let none = fault.1 in omega (arith, lawful, none)

output_clash : (constants : List (List ℕ)) (columns width : ℕ) (outs : List Out) (p : ℕ) (kind : PlanFaultKind) → length outs ≡ width → ((out : Out) → Contains outs out → IsLawfulOut constants columns out) →
    IsOutputFault constants columns width outs p kind → ⊥
output_clash constants columns width outs p kind long lawful (inl fault) = fault.2 long
output_clash constants columns width outs p kind long lawful (inr fault) =
    let h = fault.1 in
    this_out constants columns h.out kind (lawful h.out (contains_got outs p h.out h.at)) h.is

-- ---- plans

-- A plan that is lawful over a well formed schema has no fault.
pub no_fault : (schema : SchemaParts) (constants : List (List ℕ)) (plan : Plan) (fault : PlanFault) → IsWellFormed schema → IsLawful plan schema constants → IsFirstFault plan schema constants fault → ⊥
no_fault schema constants plan fault formed lawful first =
    let b = lawful first.branch (contains_got plan.branches fault.branch first.branch first.at) in
    cases b.0 b.1 first.is
  where
    cases : length first.branch.output ≡ plan.width → AreLawfulFrom schema constants 0 first.branch.steps first.branch.output → IsBranchFault schema constants plan.width first.branch fault.step fault.place fault.kind → ⊥
    cases long steps (inl h) = step_clash schema constants 0 first.branch.steps first.branch.output fault.step h.step fault.place fault.kind formed h.at steps h.is
    cases long steps (inr h) =
        output_clash constants (made_by 0 first.branch.steps) plan.width first.branch.output fault.place fault.kind long (outs_of schema constants 0 first.branch.steps first.branch.output steps) h.2
