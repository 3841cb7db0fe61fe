-- What the texts of an execution say of statements that have plans.
use Rattle.std.proofs.Common.{◌≡◌, ℕ, zero, suc, List, [], ◌∷◌, Some, Result, Ok, Err, refl, sym, subst}
use Rattle.std.specs.Prelude.{Contains, slice_get}
use Rattle.std.specs.List.{AllZip}
use Rattle.lists.proofs.Members.{some_injective, none_some, got_mapped}
use Rattle.lists.proofs.Places.{got_member}
use Rattle.meaning.specs.declared.types.Statement.{Statement}
use Rattle.meaning.specs.declared.types.Plan.{Plan}
use Rattle.meaning.specs.Plans.{IsLawful}
use Rattle.access_schema.specs.declared.schema.Schema.{Schema}
use Rattle.access_schema.specs.Meaning.{meaning_of}
use Rattle.sql_select.specs.Statements.{result_names}
use Rattle.source_trait.specs.Asking.{Seen}
use Rattle.source_trait.specs.Causes.{Rose}
use Rattle.source_trait.specs.declared.lanes.Lane.{Lane}
use Rattle.middleware.specs.declared.fault.Run.{Run}
use Rattle.plan_course.specs.Courses.{CanNumber}
use Rattle.plan_batches.specs.Batching.{IsRunOf}
use Rattle.command_io.specs.declared.stop.Stop.{Stop}
use Rattle.command_io.specs.declared.outcome.Outcome.{Outcome}
use Rattle.command_io.specs.FaultLines.{Names}
use Rattle.command_io.specs.Moments.{Outputs}
use Rattle.command_io.specs.Executing.{Delivers}
use Rattle.command_io.proofs.Delivering.{delivers_as}
use Rattle.command_io.proofs.Short.{short}
use Rattle.proof_search.specs.Plans.{known_of}
use Rattle.run_command.specs.Deciding.{IsPlanned}
use Rattle.run_command.specs.Ends.{IsResult}
use Rattle.run_command.proofs.Results.{AreRows, result_of}
use Rattle.batch_command.specs.Deciding.{Told, plans_of}
use Rattle.batch_command.specs.Ends.{AreParts, IsGiven, ExecutesOrStops, StatementsEnd}
use Rattle.batch_command.specs.Ends.StatementsEnd.{halted, stopped, done}

zip_at : {A B : Type 0} (R : A → B → Type 0) (xs : List A) (ys : List B) (k : ℕ) (x : A) (y : B) → AllZip R xs ys →
    slice_get xs k ≡ Some x → slice_get ys k ≡ Some y → R x y
zip_at R [] [] k x y all at there = absurd (none_some x at)
zip_at R [] (b ∷ ys) k x y all at there = absurd all
zip_at R (a ∷ xs) [] k x y all at there = absurd all
zip_at R (a ∷ xs) (b ∷ ys) zero x y all at there = subst (λ z. R z y) (some_injective a x at) (subst (R a) (some_injective b y there) all.0)
zip_at R (a ∷ xs) (b ∷ ys) (suc k) x y all at there = zip_at R xs ys k x y all.1 at there

zip_second : {A B : Type 0} (R : A → B → Type 0) (xs : List A) (ys : List B) (k : ℕ) (y : B) → AllZip R xs ys →
    slice_get ys k ≡ Some y → (x : A) × R x y
zip_second R [] [] k y all there = absurd (none_some y there)
zip_second R [] (b ∷ ys) k y all there = absurd all
zip_second R (a ∷ xs) [] k y all there = absurd all
zip_second R (a ∷ xs) (b ∷ ys) zero y all there = (a, subst (R a) (some_injective b y there) all.0)
zip_second R (a ∷ xs) (b ∷ ys) (suc k) y all there = zip_second R xs ys k y all.1 there

module _ (schema : Schema) (statements : List Statement) (firings search : ℕ) where
  abbrev HasPlan : Statement → Told → Type 0
  HasPlan statement its = IsPlanned schema statement firings search its.plan its.entries

  -- each of the plans is one of a statement
  pub planned_each : (told : List Told) → AllZip HasPlan statements told → (plan : Plan) → Contains (plans_of told) plan →
      (statement : Statement) × (its : Told) × HasPlan statement its × (its.plan ≡ plan)
  planned_each told all plan among =
      let (k, at) = got_member (plans_of told) plan among in
      let (its, there, same) = got_mapped (λ (one : Told). one.plan) told k plan at in
      let (statement, is) = zip_second HasPlan statements told k its all there in
      (statement, its, is, same)

  -- so each is lawful
  pub lawful_each : (told : List Told) → AllZip HasPlan statements told → (plan : Plan) → Contains (plans_of told) plan →
      (constants : List (List ℕ)) × IsLawful plan (meaning_of schema) constants
  lawful_each told all plan among =
      let (statement, its, is, same) = planned_each told all plan among in
      (known_of schema statement, subst (λ p. IsLawful p (meaning_of schema) (known_of schema statement)) same is.is.lawful)

  -- and short enough for its branches and steps to be numbered
  pub short_each : (told : List Told) → AllZip HasPlan statements told → (plan : Plan) → Contains (plans_of told) plan → CanNumber plan
  short_each told all plan among =
      let (statement, its, is, same) = planned_each told all plan among in
      let few = short its.plan is.fits.few in
      subst CanNumber same (few.branches, few.steps)

  module _ {S : Type 0} (seen : S → Seen) (cap : ℕ) (old new : List (Lane S)) where
    abbrev IsResultOf : Statement → Plan → Run → List ℕ → Type 0
    IsResultOf statement plan run = IsResult seen schema statement new plan run

    -- the texts of the rows are the results
    results_of : (told : List Told) (runs : List Run) (text : List ℕ) → AllZip HasPlan statements told →
        AllZip (IsRunOf seen schema (plans_of told) new) (plans_of told) runs →
        AreParts IsGiven statements (plans_of told) runs text → AreParts IsResultOf statements (plans_of told) runs text
    results_of told runs text planned ran given = record {
      parts = given.parts;
      count = given.count;
      each = λ k statement plan run part at_statement at_plan at_run at_part.
          let (its, there, same) = got_mapped (λ (one : Told). one.plan) told k plan at_plan in
          let is = zip_at HasPlan statements told k statement its planned at_statement there in
          let its_run = zip_at (IsRunOf seen schema (plans_of told) new) (plans_of told) runs k plan run ran at_plan at_run in
          let rows : AreRows seen schema its.plan new run = subst (λ p. AreRows seen schema p new run) (sym same) its_run.rows in
          subst (λ p. IsResultOf statement p run part) same
          (result_of seen schema statement firings search its.plan its.entries is new (result_names statement.selects) refl run part rows
          (given.each k statement plan run part at_statement at_plan at_run at_part));
      text_is = given.text_is;
    }

    module _ (names : Names) (before after : Outputs) where
      delivers : (told : List Told) → AllZip HasPlan statements told → (result : Result (Unit {0}) Stop) →
          Delivers (ExecutesOrStops seen schema cap old new (plans_of told))
          (AreParts IsGiven statements (plans_of told)) before.out after.out (Rose before.out_faults after.out_faults) result →
          Delivers (ExecutesOrStops seen schema cap old new (plans_of told))
          (AreParts IsResultOf statements (plans_of told)) before.out after.out (Rose before.out_faults after.out_faults) result
      delivers told planned = delivers_as (ExecutesOrStops seen schema cap old new (plans_of told))
          (AreParts IsGiven statements (plans_of told)) before.out after.out (Rose before.out_faults after.out_faults)
          (ExecutesOrStops seen schema cap old new (plans_of told)) (AreParts IsResultOf statements (plans_of told)) (λ ended ran. ran)
          (λ runs text ran given. results_of told runs text planned ran.runs given)

      pub with_results : (result : Result Outcome Stop) →
          StatementsEnd schema statements firings search (ExecutesOrStops seen schema cap old new)
          (AreParts IsGiven statements) names before after old new result →
          StatementsEnd schema statements firings search (ExecutesOrStops seen schema cap old new)
          (AreParts IsResultOf statements) names before after old new result
      with_results result (halted ended halts out lanes) = halted ended halts out lanes
      with_results result (stopped told middle count why end are delivery line) =
          stopped told middle count why end are (delivers told are.planned (Err why) delivery) line
      with_results result (done told are delivery) = done told are (delivers told are.planned (Ok tt) delivery)
