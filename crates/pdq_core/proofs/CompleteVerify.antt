-- The command `verify` is answered.
use Rattle.std.proofs.Common.{◌≡◌, ◌≢◌, inl, inr, ℕ, List, [], ◌∷◌, take, None, Some, Result, Ok, Err, refl, sym, ◌∙◌, ap, subst}
use Rattle.std.specs.Prelude.{Contains, IsSome, slice_get}
use Rattle.lists.proofs.Members.{some_injective, contains_got}
use Rattle.meaning.specs.declared.types.Fact.{Fact}
use Rattle.access_schema.specs.declared.schema.Schema.{Schema}
use Rattle.source_trait.specs.Asking.{RowList, Seen, CallGives}
use Rattle.source_trait.specs.Lanes.{source_of, KindsStay, LanesStay}
use Rattle.source_trait.specs.declared.source.AttachFault.{AttachFault}
use Rattle.source_trait.specs.declared.source.AttachFault.TheVariants as attach
use Rattle.source_trait.specs.declared.source.CallFault.{CallFault}
use Rattle.source_trait.specs.declared.source.CallFault.TheVariants as call
use Rattle.source_trait.specs.declared.lanes.Kind.{Kind}
use Rattle.source_trait.specs.declared.lanes.Lane.{Lane}
use Rattle.source_trait.proofs.LaneSteps.{StepsOn-stays, StepsOn-source, KindsStay-refl, KindsStay-trans}
use Rattle.middleware.specs.Needs.{AttachBreaksAt, AttachesNeeded}
use Rattle.middleware.specs.Needs.AttachesNeeded.{done as all_attached, no_source, unknown_kind, refused, no_memory}
use Rattle.middleware.specs.declared.fault.RunFault.{RunFault}
use Rattle.middleware.proofs.LaneStays.{attach_stay}
use Rattle.middleware.proofs.Lacking.{rises_strictly}
use Rattle.command_io.specs.declared.stop.Stop.{Stop}
use Rattle.command_io.specs.declared.stop.Stop.TheVariants as stop
use Rattle.command_io.specs.Executing.{stop_of_run}
use Rattle.command_io.specs.declared.outcome.Outcome.{Outcome}
use Rattle.command_io.specs.Moments.{Moment}
use Rattle.command_io.specs.Verified.{stop_of_verify}
use Rattle.rule_rows.specs.RuleRelations.{RulesName, needed_first}
use Rattle.rule_rows.specs.Asking.{AsksOne, AsksInOrder}
use Rattle.rule_rows.specs.Verifying.{Tests, Verifies, used}
use Rattle.rule_rows.specs.Verifying.Tests.{no_memory as tests_memory, not_asked as tests_not_asked, bad_number as tests_bad}
use Rattle.rule_rows.specs.Verifying.Verifies.{not_attached, not_asked}
use Rattle.rule_rows.specs.declared.fault.WholeFault.{WholeFault}
use Rattle.rule_rows.specs.declared.fault.VerifyFault.{VerifyFault}
use Rattle.rule_rows.specs.declared.fault.VerifyFault.TheVariants as verify_fault
use Rattle.verify_command.specs.Ends.{TestsOrStops, VerifyEnds}
use Rattle.verify_command.specs.Ends.VerifyEnds.{no_schema, stopped, cut, done as shown}
use Rattle.pdq_core.specs.Runs.{ended}
use Rattle.pdq_core.specs.Complete.{IsAnswered, NoneRose, SchemaIsGiven, Serve, TellIntegers, CanTest}
use Rattle.pdq_core.specs.Complete.IsAnswered.{done, no}
use Rattle.pdq_core.proofs.CompleteTexts.{same_schema, schema_stop, result_stop, stop_answered}
use Rattle.pdq_core.proofs.CompleteSources.{in_first, rises_take, none_rose, none_refused}
use Rattle.pdq_core.proofs.CompleteIntegers.{no_break}

module _ {S : Type 0} (seen : S → Seen) where
  module _ (schema : Schema) where
    one_stays : (rel : ℕ) (result : Result RowList CallFault) (old new : List (Kind S)) → AsksOne seen schema rel result old new → KindsStay seen old new
    one_stays rel result old new one = StepsOn-stays old new (λ s t. CallGives (seen s) (seen t) rel [] [] result) seen one.line.kind (λ s t gives. gives.faults) one.steps

    asks_stay : (rels : List ℕ) (facts : List Fact) (old new : List (Kind S)) → AsksInOrder seen schema rels facts old new → KindsStay seen old new
    asks_stay [] facts old new (none, e) = subst (λ (kinds : List (Kind S)). KindsStay seen old kinds) (sym e) (KindsStay-refl seen old)
    asks_stay (rel ∷ rels) facts old new (rows, rest, middle, e, one, integers, later) =
        KindsStay-trans seen old middle new (one_stays rel (Ok rows) old middle one) (asks_stay rels rest middle new later)

    pub used_stay : (lanes later : List (Lane S)) → LanesStay seen lanes later → KindsStay seen (used lanes) (used later)
    used_stay [] [] stay = tt
    used_stay [] (u ∷ us) stay = absurd stay
    used_stay (w ∷ ws) [] stay = absurd stay
    used_stay (w ∷ ws) (u ∷ us) stay = stay.0

    -- where the first lane serves the relations that it needs, if it needs one, and tells integers, no request for a whole relation fails,
    -- and none has a bad number
    pub tests_stop : (IsNeeded : ℕ → Type 0) (old middle new : List (Lane S)) →
        ((rel : ℕ) → IsNeeded rel → Serve seen schema IsNeeded (used old) (used new)) → KindsStay seen (used old) (used middle) →
        TellIntegers seen schema IsNeeded (used middle) → (rels : List ℕ) → ((rel : ℕ) → Contains rels rel → IsNeeded rel) →
        (why : WholeFault) → Tests seen schema rels (used middle) (used new) (Err why) →
        stop_of_verify (verify_fault.NotAsked why) ≡ stop.Memory
    tests_stop IsNeeded old middle new serve stays tells rels are why (tests_memory part) = refl
    tests_stop IsNeeded old middle new serve stays tells rels are why (tests_not_asked rel breaks) =
        let one = breaks.failed in
        let moved = StepsOn-source breaks.middle (used new) (λ s t. CallGives (seen s) (seen t) rel [] [] (Err call.Failed)) one.line.kind one.steps in
        let gives : CallGives (seen moved.before) (seen moved.after) rel [] [] (Err call.Failed) = moved.steps in
        let stay : KindsStay seen (used old) breaks.middle =
        KindsStay-trans seen (used old) (used middle) breaks.middle stays (asks_stay (take breaks.n rels) breaks.facts (used middle) breaks.middle breaks.asked) in
        let needed : IsNeeded rel = are rel (contains_got rels breaks.n rel breaks.at) in
        absurd (none_rose seen schema IsNeeded (used old) (used new) (serve rel needed) breaks.middle rel one.line moved.before moved.after
        needed one.line_is stay moved.was moved.now (gives.failed refl))
    tests_stop IsNeeded old middle new serve stays tells rels are why (tests_bad rel column breaks) =
        let needed : IsNeeded rel = are rel (contains_got rels breaks.n rel breaks.at) in
        absurd (no_break seen schema IsNeeded rels rel column (used middle) (used new) tells needed breaks)

    -- where the rules can be tested on the first lane
    module _ (old new : List (Lane S)) (can : CanTest seen schema old new) where
      used_at : (lanes : List (Lane S)) (place : ℕ) (lane : Lane S) → place ≡ 0 → slice_get lanes place ≡ Some lane → used lanes ≡ lane.kinds.items
      used_at lanes place lane first at = go lanes (ap (slice_get lanes) (sym first) ∙ at)
        where
          go : (l : List (Lane S)) → slice_get l 0 ≡ Some lane → used l ≡ lane.kinds.items
          go [] is = absurd (cc)
          go (x ∷ rest) is = ap (λ (y : Lane S). y.kinds.items) (some_injective x lane is)

      attach_stop : (rel : ℕ) (why : AttachFault) → AttachBreaksAt seen schema (needed_first schema) rel why old new → why ≢ attach.NoMemory → ⊥
      attach_stop rel why stops apart =
          let b = stops.breaks in
          let r = b.refused in
          let rels = stops.rels b.place in
          let are = stops.are b.place in
          let first : b.place ≡ 0 = ((are.exactly rel).0 (contains_got rels r.n rel r.at)).0 in
          let serves : Serve seen schema (RulesName schema) b.before.kinds.items b.after.kinds.items =
          subst (λ (l : List (Kind S)). Serve seen schema (RulesName schema) l b.after.kinds.items) (used_at old b.place b.before first b.was)
          (subst (λ (l : List (Kind S)). Serve seen schema (RulesName schema) (used old) l) (used_at new b.place b.after first b.now)
          can.serve) in
          none_refused seen schema (RulesName schema) b.before.kinds.items b.after.kinds.items serves
          (take r.n rels) r.middle rel why (rises_take rels r.n rel (rises_strictly rels are.ascends) r.at)
          (λ other among. ((are.exactly other).0 (in_first r.n rels other among)).1) ((are.exactly rel).0 (contains_got rels r.n rel r.at)).1 apart r.attached r.refused

      attaches_stop : (why : RunFault) → AttachesNeeded seen schema (needed_first schema) old new (Err why) → stop_of_run why ≡ stop.Memory
      attaches_stop why (no_source rel first same) =
          let none = first.lacks in
          let some = can.serve.lines rel first.wanted.1.1 in
          absurd (cc)
      attaches_stop why (unknown_kind rel first same) = elim first.lacks [
        | inl empty ↦
            let some = can.serve.kinds rel first.line first.wanted.1.1 first.line_is in
            let none = subst (λ (l : List (Lane S)). IsSome (source_of (used l) first.line.kind)) empty some in
            absurd (cc)
        | inr lack ↦
            let (place, lane, at, need, none) = lack in
            let some = can.serve.kinds rel first.line need.1 first.line_is in
            let there = subst (λ (l : List (Kind S)). IsSome (source_of l first.line.kind)) (used_at old place lane need.0 at) some in
            absurd (cc)
      ]
      attaches_stop why (refused rel its breaks have apart) = absurd (attach_stop rel its breaks apart)
      attaches_stop why (no_memory how) = refl

      fault_stop : (why : VerifyFault) → Verifies seen schema (needed_first schema) old new (Err why) → stop_of_verify why ≡ stop.Memory
      fault_stop why (not_attached its attaches) = attaches_stop its attaches
      fault_stop why (not_asked middle its (all_attached each have) tests) =
          tests_stop (RulesName schema) old middle new (λ rel named. can.serve)
          (used_stay old middle (attach_stay seen schema each.rels old middle each.order)) (can.integers middle (all_attached each have))
          tests.rels (λ rel among. ((tests.are.exactly rel).0 among).1) its tests.tests

      verify_stop : (end : Stop) → TestsOrStops seen schema old new (Err end) → end ≡ stop.Memory
      verify_stop end (why, verifies, is) = is ∙ fault_stop why verifies

  pub verify_answered : (name : List ℕ) (before after : Moment) (old new : List (Lane S)) (result : Result Outcome Stop) →
      NoneRose before after → (schema : Schema) → SchemaIsGiven before.files name schema → CanTest seen schema old new →
      VerifyEnds seen name before after old new result → IsAnswered (ended result)
  verify_answered name before after old new result calm schema given can (no_schema end why quiet same) =
      stop_answered end (schema_stop before.files name _ calm.files schema given) why
  verify_answered name before after old new result calm schema given can (stopped its why end is verifies same told quiet) =
      let able : CanTest seen its old new =
      subst (λ (s : Schema). CanTest seen s old new) (same_schema before.files name schema its given is) can in
      let memory : why ≡ stop.Memory = verify_stop its old new able why verifies in
      stop_answered end (λ its_end e. e ∙ memory) told
  verify_answered name before after old new result calm schema given can (cut its found end is verifies same took told) =
      stop_answered end (result_stop _ calm.out) told
  verify_answered name before after old new result calm schema given can (shown its None is verifies same took quiet) = done
  verify_answered name before after old new result calm schema given can (shown its (Some broken) is verifies same took quiet) = no
