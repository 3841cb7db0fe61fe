-- Judging a plan part by part, from left to right: what inner functions do.
use Rattle.std.specs.Prelude.{◌≡◌, ℕ, ◌+◌, List, [], ◌∷◌, length, slice_get, Option, Some, None, Result, Ok, Err, Bool, true, false, nat_eq, nat_lt, if◌then◌else◌, ◌&&◌, not}
use Rattle.std.specs.Cmp.Lexicographic.{pointwise, slice_cmp}
use Rattle.std.specs.List.{AllAdjacentBelow}
use Rattle.std.specs.Ordering.{is_le, nat_cmp}
use Rattle.meaning.specs.declared.types.Method.{Method}
use Rattle.meaning.specs.declared.types.Relation.{Relation}
use Rattle.meaning.specs.declared.types.SchemaParts.{SchemaParts}
use Rattle.meaning.specs.declared.types.Place.{Place}
use Rattle.meaning.specs.declared.types.Place.TheVariants.{Const, Col, New}
use Rattle.meaning.specs.declared.types.Out.{Out}
use Rattle.meaning.specs.declared.types.Out.TheVariants.{Const as Fixed, Col as Made}
use Rattle.meaning.specs.declared.types.Step.{Step}
use Rattle.meaning.specs.declared.types.Branch.{Branch}
use Rattle.plan_form.specs.declared.fault.PlanFaultKind.{PlanFaultKind}
use Rattle.plan_form.specs.declared.fault.PlanFaultKind.TheVariants.{NoSuchMethod, InputNotKnown, UnknownConstant, BadColumn, WrongArity}
use Rattle.plan_form.specs.declared.judge.Spot.{Spot}
use Rattle.plan_form.specs.declared.fault.PlanFault.{PlanFault}

-- the text is one of the constants
abbrev pub has_text : List (List ℕ) → List ℕ → Bool
has_text [] text = false
has_text (c ∷ constants) text = if pointwise nat_eq c text then true else has_text constants text

-- no constant comes before the one ahead of it
abbrev pub Ascend : List (List ℕ) → Type 0
Ascend constants = AllAdjacentBelow (λ first second. is_le (slice_cmp nat_cmp first second) ≡ true) constants (length constants)

-- the position is an input
abbrev pub is_input_at : List ℕ → ℕ → Bool
is_input_at [] p = false
is_input_at (q ∷ inputs) p = if nat_eq q p then true else is_input_at inputs p

-- what is wrong with a place, at position p of a step that began with so many columns, where `columns` exist by now
abbrev pub place_fault : List (List ℕ) → List ℕ → ℕ → ℕ → ℕ → Place → Option PlanFaultKind
place_fault constants inputs began p columns (Const c) = if has_text constants c then None else Some UnknownConstant
place_fault constants inputs began p columns (Col k) =
    if not (nat_lt k columns) then Some BadColumn else (if is_input_at inputs p && not (nat_lt k began) then Some InputNotKnown else None)
place_fault constants inputs began p columns New = if is_input_at inputs p then Some InputNotKnown else None

-- the columns behind a place
abbrev pub count_place : ℕ → Place → ℕ
count_place columns New = columns + 1
count_place columns (Const c) = columns
count_place columns (Col k) = columns

-- the fault at position p, or else the rest
abbrev pub unless : {T : Type 0} → Option PlanFaultKind → ℕ → Result T Spot → Result T Spot
unless None p rest = rest
unless (Some kind) p rest = Err (record { place = p; kind = kind })

-- the columns behind the places, or the first place that is at fault
abbrev pub judged_places : List (List ℕ) → List ℕ → ℕ → ℕ → ℕ → List Place → Result ℕ Spot
judged_places constants inputs began p columns [] = Ok columns
judged_places constants inputs began p columns (place ∷ places) =
    unless (place_fault constants inputs began p columns place) p (judged_places constants inputs began (p + 1) (count_place columns place) places)

-- the method of that name
abbrev pub method_of : List Method → List ℕ → Option Method
method_of [] name = None
method_of (m ∷ rest) name = if pointwise nat_eq m.name name then Some m else method_of rest name

-- the places of a step whose method has this relation, where they are as many as its columns
abbrev pub judged_arity : List (List ℕ) → ℕ → Step → Method → Option Relation → Result ℕ Spot
judged_arity constants columns step method None = Err (record { place = 0; kind = WrongArity })
judged_arity constants columns step method (Some relation) =
    if nat_eq (length step.places) (length relation.columns) then judged_places constants method.inputs columns 0 columns step.places
    else Err (record { place = 0; kind = WrongArity })

-- a step by the method that was found
abbrev pub judged_method : SchemaParts → List (List ℕ) → ℕ → Step → Option Method → Result ℕ Spot
judged_method schema constants columns step None = Err (record { place = 0; kind = NoSuchMethod })
judged_method schema constants columns step (Some method) = judged_arity constants columns step method (slice_get schema.relations method.rel)

-- the columns behind a step, or its first fault
abbrev pub judged_step : SchemaParts → List (List ℕ) → ℕ → Step → Result ℕ Spot
judged_step schema constants columns step = judged_method schema constants columns step (method_of schema.methods step.method)

-- what is wrong with an output place, where so many columns exist
abbrev pub out_fault : List (List ℕ) → ℕ → Out → Option PlanFaultKind
out_fault constants columns (Fixed c) = if has_text constants c then None else Some UnknownConstant
out_fault constants columns (Made k) = if nat_lt k columns then None else Some BadColumn

-- the first output place that is at fault
abbrev pub judged_outs : List (List ℕ) → ℕ → ℕ → List Out → Result (Unit {0}) Spot
judged_outs constants columns p [] = Ok tt
judged_outs constants columns p (out ∷ outs) = unless (out_fault constants columns out) p (judged_outs constants columns (p + 1) outs)

-- an output has the plan's width, and each of its places is a constant or a column
abbrev pub judged_output : List (List ℕ) → ℕ → ℕ → List Out → Result (Unit {0}) Spot
judged_output constants width columns output =
    if nat_eq (length output) width then judged_outs constants columns 0 output else Err (record { place = 0; kind = WrongArity })

-- a place of a step of a branch
abbrev pub fault_at : ℕ → ℕ → Spot → PlanFault
fault_at branch step spot = record { branch = branch; step = step; place = spot.place; kind = spot.kind }

-- what was found at a step of a branch
abbrev pub placed : ℕ → ℕ → Result (Unit {0}) Spot → Result (Unit {0}) PlanFault
placed branch step (Ok x) = Ok x
placed branch step (Err spot) = Err (fault_at branch step spot)

-- what was found at a step of a branch, or else what is found behind it
abbrev pub and_then : ℕ → ℕ → Result ℕ Spot → (ℕ → Result (Unit {0}) PlanFault) → Result (Unit {0}) PlanFault
and_then branch step (Ok columns) rest = rest columns
and_then branch step (Err spot) rest = Err (fault_at branch step spot)

-- the steps in order, from step n on, and then the output
abbrev pub judged_steps : SchemaParts → List (List ℕ) → ℕ → ℕ → ℕ → ℕ → List Step → List Out → Result (Unit {0}) PlanFault
judged_steps schema constants width branch n columns [] output = placed branch n (judged_output constants width columns output)
judged_steps schema constants width branch n columns (step ∷ steps) output =
    and_then branch n (judged_step schema constants columns step) (λ after. judged_steps schema constants width branch (n + 1) after steps output)

-- the first of two faults
abbrev pub before : Result (Unit {0}) PlanFault → Result (Unit {0}) PlanFault → Result (Unit {0}) PlanFault
before (Ok x) rest = rest
before (Err fault) rest = Err fault

-- the branches in order, from branch b on
abbrev pub judged_branches : SchemaParts → List (List ℕ) → ℕ → ℕ → List Branch → Result (Unit {0}) PlanFault
judged_branches schema constants width b [] = Ok tt
judged_branches schema constants width b (branch ∷ branches) =
    before (judged_steps schema constants width b 0 0 branch.steps branch.output) (judged_branches schema constants width (b + 1) branches)
