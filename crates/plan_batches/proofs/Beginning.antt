-- Whether plans have a round, and how lanes are as their rounds begin.
use Rattle.std.proofs.Common.{◌≡◌, ⊎_elim, ℕ, ◌<◌, List, [], ◌∷◌, length, map, ◌∙◌, subst, arith}
use Rattle.std.specs.Prelude.{Contains, Result, Ok, Err, IfOk, IfErr, OnOk, MatchResult}
use Rattle.std.specs.List.{AllZip}
use Rattle.std.proofs.lemmas.Bool.{cases_lt}
use Rattle.std.proofs.lemmas.List.{length-map}
use Rattle.lists.proofs.Members.{contains_here, contains_there}
use Rattle.meaning.specs.declared.types.Plan.{Plan}
use Rattle.access_schema.specs.declared.schema.Schema.{Schema}
use Rattle.source_trait.specs.Asking.{Seen}
use Rattle.source_trait.specs.Lanes.{LanesStay}
use Rattle.source_trait.specs.declared.lanes.Lane.{Lane}
use Rattle.middleware.specs.Needs.{AttachesNeeded}
use Rattle.middleware.specs.LaneRounds.{started, NoneStopped}
use Rattle.middleware.specs.declared.fault.Run.{Run}
use Rattle.middleware.proofs.Begun.{begun_long}
use Rattle.shared_rounds.specs.SharedRounds.{turns_of}
use Rattle.shared_rounds.specs.Books.{asked_in}
use Rattle.plan_course.proofs.Accessing.{some_turn, turn_accesses}
use Rattle.plan_batches.specs.Batching.{NeedsOf, needed_by_all, most_steps, RoundsDone, RoundsHalt, IsRunOf, ExecutesAll}
use Rattle.plan_batches.specs.Coming.{HasCome}
use Rattle.plan_batches.specs.Each.{Both}
use Rattle.plan_batches.specs.Members.{Ends}
use Rattle.plan_batches.specs.Rounding.{AreReadyPlans}
use Rattle.plan_batches.specs.declared.fault.BatchFault.{BatchFault}
use Rattle.plan_batches.specs.declared.round.Progress.{Progress}
use Rattle.plan_batches.proofs.Attaching.{halts_started, rounds_started, went_on}
use Rattle.plan_batches.proofs.Ending.{all_runs, longest}

module _ (schema : Schema) where
  -- where a relation is needed, there is a round
  pub some_round : (plans : List Plan) (rel : ℕ) → NeedsOf schema plans rel → 0 < most_steps plans
  some_round plans rel (plan, among, a) =
      let some = some_turn schema plan rel a in
      let most = longest plans plan among in
      omega (arith, some, most)

  -- and where there is one, a relation is needed
  one_need : (plans all : List Plan) → ((plan : Plan) → Contains plans plan → Contains all plan) → AreReadyPlans schema all → 0 < most_steps plans
      → (rel : ℕ) × NeedsOf schema all rel
  one_need [] all within ready some = absurd (omega (arith, some))
  one_need (p ∷ plans) all within ready some = ⊎_elim
      (λ l. let of = within p (contains_here p plans) in let (rel, a) = turn_accesses schema p (ready p of).0 l in (rel, (p, of, a)))
      (λ l. one_need plans all (λ plan c. within plan (contains_there p plans plan c)) ready (omega (arith, some, l)))
      (cases_lt 0 (length (turns_of p)))

  pub some_need : (plans : List Plan) → AreReadyPlans schema plans → 0 < most_steps plans → (rel : ℕ) × NeedsOf schema plans rel
  some_need plans = one_need plans plans (λ plan c. c)

  pub no_round : (plans : List Plan) → AreReadyPlans schema plans → ((rel : ℕ) → NeedsOf schema plans rel → ⊥) → most_steps plans ≡ 0
  no_round plans ready none = ⊎_elim
      (λ l. let (rel, need) = some_need plans ready l in absurd (none rel need))
      (λ l. omega (arith, l))
      (cases_lt 0 (most_steps plans))

module _ {S : Type 0} (seen : S → Seen) (schema : Schema) (plans : List Plan) (ready : AreReadyPlans schema plans) where
  -- ---- as the rounds begin

  module _ (old begun : List (Lane S)) (most : ℕ) (most_is : most ≡ most_steps plans) (some : 0 < most → begun ≡ map started old) (none : most ≡ 0 → begun ≡ old) where
    pub begun_some : ((rel : ℕ) → NeedsOf schema plans rel → 0 < length old) → 0 < most → 0 < length begun
    begun_some lanes l =
        let (rel, need) = some_need schema plans ready (omega (arith, l, most_is)) in
        let there = lanes rel need in
        let same = begun_long old begun most some none in
        omega (arith, there, same)

    -- ---- and as they end

    pub runs_so : (cap : ℕ) (progress : Progress) (new : List (Lane S)) → HasCome seen schema plans begun cap most progress new → (runs : List Run)
        → Both Ends progress.members.items runs → AllZip (IsRunOf seen schema plans new) plans runs
    runs_so cap progress new come = all_runs seen schema plans begun cap progress new (subst (λ n. HasCome seen schema plans begun cap n progress new) most_is come)

    pub done_so : (cap : ℕ) (progress : Progress) (new : List (Lane S)) → HasCome seen schema plans begun cap most progress new → (runs : List Run)
        → RoundsDone seen schema plans cap (map started old) new (Ok runs)
    done_so cap progress new come runs =
        let h = subst (λ n. HasCome seen schema plans begun cap n progress new) most_is come in
        let within = h.within in
        let long = length-map progress.book.asked.items (λ a. a.request) in (
          asked_in progress.book.asked.items,
          rounds_started schema plans seen old begun most some none (most_steps plans) (asked_in progress.book.asked.items) new h.rounds,
          omega (arith, within, long),
        )

    pub halts_so : (cap : ℕ) (why : BatchFault) (new : List (Lane S)) → RoundsHalt seen schema plans cap why begun new
        → RoundsHalt seen schema plans cap why (map started old) new
    halts_so = halts_started schema plans seen old begun most some none

    pub idle_so : (new : List (Lane S)) → (most ≡ 0 → new ≡ begun) → ((rel : ℕ) → NeedsOf schema plans rel → ⊥) → new ≡ old
    idle_so new idle nothing = let zero_most : most ≡ 0 = most_is ∙ no_round schema plans ready nothing in idle zero_most ∙ none zero_most

    pub going_so : (new : List (Lane S)) → (0 < most → NoneStopped new) → (rel : ℕ) → NeedsOf schema plans rel → NoneStopped new
    going_so new going rel need = let l = some_round schema plans rel need in going (omega (arith, l, most_is))

  -- ---- all of a batch that went on

  pub went_on_so : {V : Type 0} (items : V → List Run) (cap : ℕ) (old middle new : List (Lane S)) (result : Result V BatchFault)
      → AttachesNeeded seen schema (needed_by_all schema plans) old middle (Ok tt) → LanesStay seen old middle
      → IfOk result (λ runs. AllZip (IsRunOf seen schema plans new) plans (items runs))
      → IfOk result (λ runs. RoundsDone seen schema plans cap (map started middle) new (Ok (items runs)))
      → IfErr result (λ why. RoundsHalt seen schema plans cap why (map started middle) new)
      → (((rel : ℕ) → NeedsOf schema plans rel → ⊥) → new ≡ middle) → ((rel : ℕ) → NeedsOf schema plans rel → OnOk result (NoneStopped new))
      → MatchResult result (λ runs. ExecutesAll seen schema plans cap old new (Ok (items runs))) (λ why. ExecutesAll seen schema plans cap old new (Err why))
  went_on_so items cap old middle new (Ok runs) attaches stay its done halts idle going =
      went_on schema plans seen cap old middle new (Ok (items runs)) attaches stay its done idle going
  went_on_so items cap old middle new (Err why) attaches stay its done halts idle going =
      went_on schema plans seen cap old middle new (Err why) attaches stay tt halts idle (λ rel need. tt)
