-- An execution behind tests of the rules, or its delivery, is stopped by nothing but a broken rule or a lack of memory, where the sources of
-- each lane serve, what they hold has integers at integer columns and the cap is kept.
use Rattle.std.proofs.Common.{◌≡◌, ◌≢◌, ◌<◌, inl, inr, ℕ, List, [], ◌∷◌, length, take, Option, None, Ok, Err, refl, sym, ◌∙◌, ap, subst, arith}
use Rattle.std.specs.Prelude.{IsSome}
use Rattle.lists.proofs.Members.{contains_got}
use Rattle.meaning.specs.declared.types.Plan.{Plan}
use Rattle.access_schema.specs.declared.schema.Schema.{Schema}
use Rattle.source_trait.specs.Asking.{Seen}
use Rattle.source_trait.specs.Lanes.{LanesStay}
use Rattle.source_trait.specs.declared.source.AttachFault.{AttachFault}
use Rattle.source_trait.specs.declared.source.AttachFault.TheVariants as attach
use Rattle.source_trait.specs.declared.lanes.Kind.{Kind}
use Rattle.source_trait.specs.declared.lanes.Lane.{Lane}
use Rattle.source_trait.proofs.LaneSteps.{LanesStay-trans}
use Rattle.middleware.specs.declared.fault.Run.{Run}
use Rattle.middleware.specs.declared.fault.RunFault.{RunFault}
use Rattle.middleware.specs.PlanSources.{line_for, IsAccessed}
use Rattle.middleware.specs.Held.{HoldPlan}
use Rattle.middleware.specs.Needs.{IsWanted, IsFirstKindless, AttachBreaksAt, AttachesNeeded}
use Rattle.middleware.specs.Needs.AttachesNeeded.{done as all_attached, no_source, unknown_kind, refused, no_memory as attach_memory}
use Rattle.plan_execution.specs.Executing.{ExecutesAttached}
use Rattle.middleware.proofs.Lacking.{rises_strictly}
use Rattle.middleware.proofs.LaneStays.{attach_stay, started_each}
use Rattle.rule_rows.specs.RuleRelations.{needed_verified}
use Rattle.rule_rows.specs.Verifying.{Verifies, used}
use Rattle.rule_rows.specs.Verifying.Verifies.{not_attached, not_asked, tested}
use Rattle.rule_rows.specs.Executing.{RunsVerified}
use Rattle.rule_rows.specs.Executing.RunsVerified.{not_verified, not_met, halted}
use Rattle.rule_rows.specs.declared.fault.VerifyFault.{VerifyFault}
use Rattle.rule_rows.specs.declared.fault.VerifiedFault.{VerifiedFault}
use Rattle.rule_rows.specs.declared.fault.VerifiedFault.TheVariants as verified_fault
use Rattle.command_io.specs.declared.stop.Stop.{Stop}
use Rattle.command_io.specs.declared.stop.Stop.TheVariants as stop
use Rattle.command_io.specs.Status.{status_of}
use Rattle.command_io.specs.Executing.{stop_of_run, Delivers}
use Rattle.command_io.specs.Executing.Delivers.{no_rows, no_text, cut}
use Rattle.command_io.specs.Verified.{stop_of_verify, IsVerifiedStop, VerifiesOrStops}
use Rattle.pdq_core.specs.Complete.{IsAnswered, AtPlaces, Serve, CanVerify}
use Rattle.pdq_core.specs.Complete.IsAnswered.{no, no_memory}
use Rattle.pdq_core.proofs.CompleteTexts.{result_stop}
use Rattle.pdq_core.proofs.CompleteSources.{in_first, rises_take, none_refused}
use Rattle.pdq_core.proofs.CompleteAttaches.{none_some}
use Rattle.pdq_core.proofs.CompleteExecution.{rounds_stop}
use Rattle.pdq_core.proofs.CompleteVerify.{used_stay, tests_stop}

memory_answered : (end : Stop) → end ≡ stop.Memory → IsAnswered (status_of end)
memory_answered end is = subst (λ (s : Stop). IsAnswered (status_of s)) (sym is) no_memory

module _ {S : Type 0} (seen : S → Seen) (schema : Schema) where
  -- what holds of the lane at the first place holds of the used one
  used_serves : (P : ℕ → List (Kind S) → List (Kind S) → Type 0) (old new : List (Lane S)) → LanesStay seen old new → AtPlaces P old new → 0 < length old →
      P 0 (used old) (used new)
  used_serves P [] new stay all some = absurd (omega (arith, some))
  used_serves P (w ∷ ws) [] stay all some = absurd stay
  used_serves P (w ∷ ws) (u ∷ us) stay all some = all 0 w u refl refl

  -- ---- attaching what the lanes need, where the first one needs all that is wanted

  module _ (IsNeeded : ℕ → ℕ → Type 0) (at_first : (rel : ℕ) → IsWanted IsNeeded rel → IsNeeded 0 rel) where
    has_line : (lanes : List (Lane S)) → 0 < length lanes → AtPlaces (λ place. Serve seen schema (IsNeeded place)) lanes lanes → (rel : ℕ) → IsNeeded 0 rel →
        IsSome (line_for rel schema.sources)
    has_line [] some serve rel needed = absurd (omega (arith, some))
    has_line (w ∷ ws) some serve rel needed = (serve 0 w w refl refl).lines rel needed

    module _ (old new : List (Lane S)) (some : (rel : ℕ) → IsNeeded 0 rel → 0 < length old) (serve : AtPlaces (λ place. Serve seen schema (IsNeeded place)) old new) where
      same_serves : new ≡ old → AtPlaces (λ place. Serve seen schema (IsNeeded place)) old old
      same_serves same = subst (λ (lanes : List (Lane S)). AtPlaces (λ place. Serve seen schema (IsNeeded place)) old lanes) same serve

      has_kind : (rel : ℕ) → IsFirstKindless schema IsNeeded old rel → AtPlaces (λ place. Serve seen schema (IsNeeded place)) old old → ⊥
      has_kind rel first serves = elim first.lacks [
        | inl empty ↦ let one = some rel (at_first rel first.wanted) in let none = ap length empty in omega (arith, one, none)
        | inr lack ↦
            let (place, lane, at, needed, none) = lack in
            let its : Serve seen schema (IsNeeded place) lane.kinds.items lane.kinds.items = serves place lane lane at at in
            none_some _ none (its.kinds rel first.line needed first.line_is)
      ]

      attach_stop : (rel : ℕ) (why : AttachFault) → AttachBreaksAt seen schema IsNeeded rel why old new → why ≢ attach.NoMemory → ⊥
      attach_stop rel why stops apart =
          let b = stops.breaks in
          let r = b.refused in
          let rels = stops.rels b.place in
          let are = stops.are b.place in
          none_refused seen schema (IsNeeded b.place) b.before.kinds.items b.after.kinds.items (serve b.place b.before b.after b.was b.now)
          (take r.n rels) r.middle rel why (rises_take rels r.n rel (rises_strictly rels are.ascends) r.at)
          (λ other among. (are.exactly other).0 (in_first r.n rels other among)) ((are.exactly rel).0 (contains_got rels r.n rel r.at)) apart r.attached r.refused

      attaches_stop : (why : RunFault) → AttachesNeeded seen schema IsNeeded old new (Err why) → stop_of_run why ≡ stop.Memory
      attaches_stop why (no_source rel first same) =
          let needed = at_first rel first.wanted in
          absurd (none_some _ first.lacks (has_line old (some rel needed) (same_serves same) rel needed))
      attaches_stop why (unknown_kind rel first same) = absurd (has_kind rel first (same_serves same))
      attaches_stop why (refused rel its breaks have apart) = absurd (attach_stop rel its breaks apart)
      attaches_stop why (attach_memory how) = refl

-- ---- the tests and the execution

module _ {S : Type 0} (seen : S → Seen) (schema : Schema) (plan : Plan) (calls : ℕ) (old new : List (Lane S)) (can : CanVerify seen schema plan calls old new) where
  needed_at_first : (rel : ℕ) → IsWanted (needed_verified schema plan) rel → needed_verified schema plan 0 rel
  needed_at_first rel (place, inl accessed) = inl accessed
  needed_at_first rel (place, inr named) = inr (refl, named.1)

  verify_stop : (why : VerifyFault) → Verifies seen schema (needed_verified schema plan) old new (Err why) → stop_of_verify why ≡ stop.Memory
  verify_stop why (not_attached its attaches) = attaches_stop seen schema (needed_verified schema plan) needed_at_first old new can.some can.serve its attaches
  verify_stop why (not_asked middle its (all_attached each have) tests) =
      let first : LanesStay seen old middle = attach_stay seen schema each.rels old middle each.order in
      tests_stop seen schema (needed_verified schema plan 0) old middle new
      (λ rel needed. used_serves seen schema (λ place. Serve seen schema (needed_verified schema plan place)) old new
      (LanesStay-trans seen old middle new first tests.stay) can.serve (can.some rel needed))
      (used_stay seen schema old middle first) (can.integers middle (all_attached each have)) tests.rels
      (λ rel among. (tests.are.exactly rel).0 among) its tests.tests

  -- the lanes kept their order until all rules were found to be met
  stays_until : (middle : List (Lane S)) → Verifies seen schema (needed_verified schema plan) old middle (Ok None) → LanesStay seen old middle
  stays_until middle (tested ready found (all_attached each have) tests) =
      LanesStay-trans seen old ready middle (attach_stay seen schema each.rels old ready each.order) tests.stay

  plan_serves : AtPlaces (λ place. Serve seen schema (IsAccessed schema plan)) old new
  plan_serves = λ place before after was now.
      let serves : Serve seen schema (needed_verified schema plan place) before.kinds.items after.kinds.items = can.serve place before after was now in
      record {
        lines = λ rel accessed. serves.lines rel (inl accessed);
        kinds = λ rel line accessed. serves.kinds rel line (inl accessed);
        offers = λ rels rel middle up are accessed. serves.offers rels rel middle up (λ other among. inl (are other among)) (inl accessed);
        faults = λ rel line accessed. serves.faults rel line (inl accessed);
      }

  execution_stop : (middle : List (Lane S)) (why : RunFault) → Verifies seen schema (needed_verified schema plan) old middle (Ok None) →
      ExecutesAttached seen schema plan calls middle new (Err why) → stop_of_run why ≡ stop.Memory
  execution_stop middle why verifies executes =
      rounds_stop seen schema plan calls old middle new (stays_until middle verifies) plan_serves
      (λ asked. let holds = can.within middle verifies in record {
        instance = holds.instance;
        held = started_each middle (λ kinds. HoldPlan seen schema plan kinds holds.instance) holds.held;
        integers = holds.integers;
        within = holds.within;
      }) why executes.does

  fault_answered : (why : VerifiedFault) (end : Stop) → RunsVerified seen schema plan calls old new (Err why) → IsVerifiedStop schema why end → IsAnswered (status_of end)
  fault_answered (verified_fault.NotVerified why) end (not_verified its verifies) is = memory_answered end (is ∙ verify_stop why verifies)
  fault_answered (verified_fault.NotMet broken) end (not_met its verifies) is = elim is [
    | inl line ↦ subst (λ (s : Stop). IsAnswered (status_of s)) (sym line) no
    | inr memory ↦ memory_answered end memory
  ]
  fault_answered (verified_fault.NotExecuted why) end (halted middle its verifies executes) is = memory_answered end (is ∙ execution_stop middle why verifies executes)

  -- A delivery is answered, where the output does not fail.
  pub verified_answered : (IsText : Run → List ℕ → Type 0) (out_old out_new : Option (List ℕ)) (rose : Type 0) → (rose → ⊥) → (why : Stop) →
      Delivers (VerifiesOrStops seen schema plan calls old new) IsText out_old out_new rose (Err why) → IsAnswered (status_of why)
  verified_answered IsText out_old out_new rose calm why (no_rows end (its, runs, is) same) = fault_answered its end runs is
  verified_answered IsText out_old out_new rose calm why (no_text its runs same) = no_memory
  verified_answered IsText out_old out_new rose calm why (cut its text end runs given part cause) = memory_answered end (result_stop rose calm end cause)
