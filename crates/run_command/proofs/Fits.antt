-- A lawful plan of few steps over a schema can be written.
use Rattle.std.proofs.Common.{◌≡◌, ℕ, ◌+◌, ◌*◌, ◌≤◌, List, [], ◌∷◌, length, refl, sym, ap, ◌∙◌, subst, arith}
use Rattle.std.specs.Prelude.{Contains}
use Rattle.std.specs.List.{AllByRecursion}
use Rattle.lists.proofs.Members.{contains_here, contains_got, all_from}
use Rattle.meaning.specs.declared.types.Place.{Place}
use Rattle.meaning.specs.declared.types.Place.TheVariants.{Const, Col, New}
use Rattle.meaning.specs.declared.types.Out.{Out}
use Rattle.meaning.specs.declared.types.Out.TheVariants.{Const as Fixed, Col as Made}
use Rattle.meaning.specs.declared.types.Step.{Step}
use Rattle.meaning.specs.declared.types.Branch.{Branch}
use Rattle.meaning.specs.declared.types.Method.{Method}
use Rattle.meaning.specs.declared.types.Plan.{Plan}
use Rattle.meaning.specs.declared.types.Select.{Select}
use Rattle.meaning.specs.declared.types.Statement.{Statement}
use Rattle.meaning.specs.Values.{Value}
use Rattle.meaning.specs.Plans.{made, AreLawfulPlaces, IsLawfulOut, IsLawfulStep, AreLawfulFrom, IsLawfulBranch}
use Rattle.meaning_laws.proofs.Frozen.{made_few}
use Rattle.access_schema.specs.declared.schema.Schema.{Schema}
use Rattle.access_schema.specs.Meaning.{meaning_of}
use Rattle.sql_select.specs.Statements.{StatementFits}
use Rattle.plan_form.specs.Fitting.{IsWritablePlace, IsWritableOut, IsWritableStep, IsWritableBranch, PlanFits}
use Rattle.proof_search.specs.Plans.{IsPlanFor, HasFewSteps as HasFewPlanned, known_of}

-- what holds of each member holds of all, and the other way round
-- lawful places name columns whose number can be written
places_fit : (constants : List Value) (inputs : List ℕ) (began p columns : ℕ) (places : List Place) → columns + length places ≤ 4294967296 →
    AreLawfulPlaces constants inputs began p columns places → AllByRecursion IsWritablePlace places
places_fit constants inputs began p columns [] few lawful = tt
places_fit constants inputs began p columns (Const c ∷ places) few lawful =
    (tt, places_fit constants inputs began (p + 1) columns places (omega (arith, few)) lawful.1)
places_fit constants inputs began p columns (Col k ∷ places) few lawful =
    (omega (arith, few, lawful.0), places_fit constants inputs began (p + 1) columns places (omega (arith, few)) lawful.2)
places_fit constants inputs began p columns (New ∷ places) few lawful =
    (tt, places_fit constants inputs began (p + 1) (columns + 1) places (omega (arith, few)) lawful.1)

-- and so do lawful outputs
out_fits : (constants : List Value) (columns : ℕ) (out : Out) → columns ≤ 4294967296 → IsLawfulOut constants columns out → IsWritableOut out
out_fits constants columns (Fixed c) few lawful = tt
out_fits constants columns (Made k) few lawful = omega (arith, few, lawful)

module _ (schema : Schema) (constants : List Value) where
  few_places : (columns : ℕ) (step : Step) (method : Method) → IsLawfulStep (meaning_of schema) constants columns step method →
      (1 ≤ length step.places) × (length step.places ≤ 64)
  few_places columns step method lawful =
      let are = schema.valid.relations_are.columns lawful.arity.relation (contains_got schema.relations method.rel lawful.arity.relation lawful.arity.there) in
      let some : 1 ≤ length lawful.arity.relation.columns = are.some in
      let few : length lawful.arity.relation.columns ≤ 64 = are.few in
      let width : length step.places ≡ length lawful.arity.relation.columns = lawful.arity.width in
      (omega (arith, some, width), omega (arith, few, width))

  step_fits : (columns : ℕ) (step : Step) (method : Method) → columns + 64 ≤ 4294967296 → IsLawfulStep (meaning_of schema) constants columns step method → IsWritableStep step
  step_fits columns step method room lawful =
      let few = few_places columns step method lawful in
      record {
        named = λ none. schema.valid.methods_are.named method lawful.named.0 (lawful.named.1 ∙ none);
        some = λ none. let empty : length step.places ≡ 0 = ap length none in absurd (omega (arith, few.0, empty));
        places = places_fit constants method.inputs columns 0 columns step.places (omega (arith, room, few.1)) lawful.places;
      }

  -- each step makes at most 64 columns
  steps_fit : (columns : ℕ) (steps : List Step) (outs : List Out) → columns + length steps * 64 ≤ 4294967296 → AreLawfulFrom (meaning_of schema) constants columns steps outs →
      AllByRecursion IsWritableStep steps × AllByRecursion IsWritableOut outs
  steps_fit columns [] outs room lawful = (tt, all_from IsWritableOut outs (λ out among. out_fits constants columns out (omega (arith, room)) (lawful out among)))
  steps_fit columns (step ∷ steps) outs room (method, is, rest) =
      let few = few_places columns step method is in
      let bound = made_few columns step.places in
      let later = steps_fit (made columns step.places) steps outs (omega (arith, room, few.1, bound)) rest in
      ((step_fits columns step method (omega (arith, room)) is, later.0), later.1)

  pub branch_fits : (branch : Branch) → length branch.steps ≤ 1048576 → 1 ≤ length branch.output → IsLawfulBranch (meaning_of schema) constants branch → IsWritableBranch branch
  branch_fits branch few some lawful =
      let parts = steps_fit 0 branch.steps branch.output (omega (arith, few)) lawful in
      record {
        steps = parts.0;
        some = λ none. let empty : length branch.output ≡ 0 = ap length none in absurd (omega (arith, some, empty));
        outs = parts.1;
      }

-- the plan for a statement that fits
pub plan_fits : (schema : Schema) (statement : Statement) (plan : Plan) → StatementFits schema statement → IsPlanFor schema statement plan → HasFewPlanned plan → PlanFits plan
plan_fits schema statement plan fits is few_planned = of_selects statement.selects refl
  where
    steps : (branch : Branch) → Contains plan.branches branch → length branch.steps ≤ 1048576
    steps branch among = let few = few_planned.steps branch among in omega (arith, few)

    with_width : 1 ≤ plan.width → plan.width ≤ 64 → PlanFits plan
    with_width some most = record {
      writable = record {
        some = some;
        most = most;
        branches = all_from IsWritableBranch plan.branches (λ branch among.
            let width = (is.lawful branch among).0 in
            branch_fits schema (known_of schema statement) branch (steps branch among) (omega (arith, some, width)) (is.lawful branch among).1);
      };
      few = record { branches = let few = few_planned.branches in omega (arith, few); steps = all_from (λ branch. length branch.steps ≤ 1048576) plan.branches steps };
    }

    of_selects : (selects : List Select) → statement.selects ≡ selects → PlanFits plan
    of_selects [] are = let none : length statement.selects ≡ 0 = ap length are in let one = fits.some in absurd (omega (arith, none, one))
    of_selects (select ∷ selects) are =
        let among : Contains statement.selects select = subst (λ list. Contains list select) (sym are) (contains_here select selects) in
        let wide = is.wide select among in
        let some = (fits.bounded select among).some_items in
        let most = (fits.bounded select among).items in
        with_width (omega (arith, wide, some)) (omega (arith, wide, most))
