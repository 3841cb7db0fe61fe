-- Lanes that have attached the relations of the plans may be asked each request of them.
use Rattle.std.proofs.Common.{◌≡◌, ◌∙◌, ◌<◌, ℕ, suc, List, [], ◌∷◌, length, get_or, Some, refl, sym, ap, subst, arith}
use Rattle.std.specs.Prelude.{Contains, IsSome, slice_get}
use Rattle.std.specs.List.{AllZip}
use Rattle.std.proofs.lemmas.Option.{slice_get-get_or}
use Rattle.lists.proofs.Members.{contains_got, contains_here, contains_map}
use Rattle.lists.proofs.Places.{got_member}
use Rattle.meaning.specs.declared.types.Plan.{Plan}
use Rattle.meaning.specs.declared.types.Request.{Request}
use Rattle.access_schema.specs.declared.schema.Schema.{Schema}
use Rattle.access_schema.specs.Meaning.{meaning_of}
use Rattle.lane_pool.specs.Work.{AllReady}
use Rattle.source_trait.specs.Asking.{Seen, CanAsk}
use Rattle.source_trait.specs.Lanes.{AtKind}
use Rattle.source_trait.specs.Works.{MayAsk}
use Rattle.source_trait.specs.declared.lanes.Lane.{Lane}
use Rattle.source_trait.specs.declared.work.Ask.{Ask}
use Rattle.source_trait.proofs.LaneSteps.{AtKind-map}
use Rattle.middleware.specs.PlanSources.{line_for, IsAccessed}
use Rattle.middleware.specs.Asked.{HasConstant, IsStepRequest}
use Rattle.middleware.specs.Rounds.{CanAskAll}
use Rattle.middleware.specs.LaneBranches.{OnEach}
use Rattle.middleware.specs.LaneRounds.{HasItsKind, HaveTheirKinds}
use Rattle.middleware.specs.LaneRunning.{IsAttachedTo}
use Rattle.middleware.proofs.Attached.{attached_askable}
use Rattle.middleware.proofs.Finding.{ready_line}
use Rattle.middleware.proofs.Planning.{accessed_by}
use Rattle.shared_rounds.specs.SharedRounds.{Turn, turns_of}
use Rattle.shared_rounds.specs.Books.{asked_in}
use Rattle.shared_rounds.proofs.Counting.{is_nth}
use Rattle.plan_batches.specs.Batching.{NeedsOf, AreOfPlans}

zip_long : {A B : Type 0} (R : A → B → Type 0) (xs : List A) (ys : List B) → AllZip R xs ys → length ys ≡ length xs
zip_long R [] [] z = refl
zip_long R [] (y ∷ ys) z = absurd z
zip_long R (x ∷ xs) [] z = absurd z
zip_long R (x ∷ xs) (y ∷ ys) z = ap suc (zip_long R xs ys z.1)

module _ (schema : Schema) where
  -- a request of a step has a value for each position
  pub step_wide : (turn : Turn) (request : Request) → IsStepRequest (meaning_of schema) turn.its request
      → length request.values ≡ length request.positions
  step_wide turn request is =
      zip_long (λ p value. HasConstant (slice_get turn.its.places p) value) request.positions request.values is.constants

  -- a step of a plan accesses the relation of its requests
  pub step_accesses : (plan : Plan) (turn : Turn) → Contains (turns_of plan) turn → (request : Request)
      → IsStepRequest (meaning_of schema) turn.its request → IsAccessed schema plan request.rel
  step_accesses plan turn c request is =
      let (k, at) = got_member (turns_of plan) turn c in
      let nth = is_nth plan k turn at in
      subst (IsAccessed schema plan) (sym is.of_relation)
      (accessed_by schema plan nth.branch turn.its is.method (contains_got plan.branches turn.branch nth.branch nth.of_plan)
      (contains_got nth.branch.steps turn.step turn.its nth.of_branch) is.named)

  module _ {S : Type 0} (seen : S → Seen) (plans : List Plan) (lanes : List (Lane S))
      (attached : (rel : ℕ) → NeedsOf schema plans rel → OnEach lanes (IsAttachedTo seen schema rel)) where
    -- each relation that is needed has a source line
    pub line_there : 0 < length lanes → (rel : ℕ) → NeedsOf schema plans rel → IsSome (line_for rel schema.sources)
    line_there some rel need = first lanes some (attached rel need)
      where
        first : (ls : List (Lane S)) → 0 < length ls → OnEach ls (IsAttachedTo seen schema rel) → IsSome (line_for rel schema.sources)
        first [] some each = absurd (omega (arith, some))
        first (lane ∷ ls) some each = let is = (each lane (contains_here lane ls)).line_is in rw is refl

    ready_ask : (lane : Lane S) → Contains lanes lane → (ask : Ask) → HasItsKind schema ask → (plan : Plan) → Contains plans plan → (turn : Turn)
        → Contains (turns_of plan) turn → IsStepRequest (meaning_of schema) turn.its ask.request → MayAsk seen lane ask
    ready_ask lane among ask its plan of turn c is =
        let method = is.method in
        let line = its.line in
        let line_is : line_for method.rel schema.sources ≡ Some line = ap (λ r. line_for r schema.sources) (sym is.of_relation) ∙ its.line_is in
        let need : NeedsOf schema plans method.rel =
        (plan, of, subst (IsAccessed schema plan) is.of_relation (step_accesses plan turn c ask.request is)) in
        let askable = attached_askable seen schema method is.named.0 lane.kinds.items (attached method.rel need lane among) in
        let ready : AtKind lane.kinds.items line.kind (λ s. CanAskAll ((seen s).attached method.rel) method) =
        ready_line seen schema lane.kinds.items method line line_is askable in
        let long : length ask.request.values ≡ length method.inputs =
        step_wide turn ask.request is ∙ ap length is.positions in
        let asks : AtKind lane.kinds.items line.kind (λ s. CanAsk ((seen s).attached method.rel) method.inputs ask.request.values) =
        AtKind-map line.kind lane.kinds.items (λ s. CanAskAll ((seen s).attached method.rel) method)
        (λ s. CanAsk ((seen s).attached method.rel) method.inputs ask.request.values) (λ s h. h ask.request.values long) ready in
        subst (λ kind. AtKind lane.kinds.items kind (λ s. CanAsk ((seen s).attached ask.request.rel) ask.request.positions ask.request.values)) (sym its.kind)
        (subst (λ r. AtKind lane.kinds.items line.kind (λ s. CanAsk ((seen s).attached r) ask.request.positions ask.request.values)) (sym is.of_relation)
        (subst (λ (p : List ℕ). AtKind lane.kinds.items line.kind (λ s. CanAsk ((seen s).attached method.rel) p ask.request.values)) (sym is.positions) asks))

    pub all_ready : (asks : List Ask) → HaveTheirKinds schema asks → AreOfPlans schema plans (asked_in asks) → AllReady (MayAsk seen) asks lanes
    all_ready asks kinds of_plans = λ k d less j e short.
        one (get_or lanes k d) (contains_got lanes k (get_or lanes k d) (slice_get-get_or lanes k d less)) j (get_or asks j e) (slice_get-get_or asks j e short)
      where
        one : (lane : Lane S) → Contains lanes lane → (j : ℕ) (ask : Ask) → slice_get asks j ≡ Some ask → MayAsk seen lane ask
        one lane among j ask at =
            let (plan, turn, of, c, is) = of_plans ask.request (contains_map (λ (a : Ask). a.request) asks ask (contains_got asks j ask at)) in
            ready_ask lane among ask (kinds j ask at) plan of turn c is
