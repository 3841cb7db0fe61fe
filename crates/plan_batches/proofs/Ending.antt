-- The runs of plans at the end of a batch.
use Rattle.std.proofs.Common.{◌≡◌, ◌↔◌, ⊎_elim, ℕ, zero, suc, ◌<◌, ◌≤◌, List, [], ◌∷◌, ◌++◌, length, Option, None, Some, refl, sym, ◌∙◌, ap, subst, arith}
use Rattle.std.specs.Prelude.{Contains, slice_get}
use Rattle.std.specs.List.{AllZip}
use Rattle.std.proofs.lemmas.Bool.{cases_lt}
use Rattle.std.proofs.lemmas.List.{append-nil, length-map}
use Rattle.std.proofs.lemmas.Option.{slice_get_past, slice_get_within}
use Rattle.lists.proofs.Members.{contains_here, contains_there, contains_cases, contains_got, contains_none, got_below, some_injective}
use Rattle.lists.proofs.Places.{got_member}
use Rattle.meaning.specs.declared.types.Fact.{Fact}
use Rattle.meaning.specs.declared.types.Plan.{Plan}
use Rattle.meaning.specs.declared.types.Request.{Request}
use Rattle.meaning.specs.declared.types.SchemaParts.{SchemaParts}
use Rattle.meaning.specs.Requests.{AreRequests}
use Rattle.meaning.specs.Search.{AreDistinct}
use Rattle.access_schema.specs.declared.schema.Schema.{Schema}
use Rattle.access_schema.specs.Meaning.{meaning_of}
use Rattle.source_trait.specs.Asking.{Seen}
use Rattle.source_trait.specs.declared.lanes.Lane.{Lane}
use Rattle.source_trait.specs.declared.work.Ask.{Ask}
use Rattle.middleware.specs.LaneRounds.{at_numbers, with_request}
use Rattle.middleware.specs.declared.fault.Run.{Run}
use Rattle.middleware.proofs.LaneBranching.{each_asked}
use Rattle.middleware.proofs.PlanHeld.{plan_held_earlier}
use Rattle.shared_rounds.specs.SharedRounds.{Anew, AreAskedAt, AreRounds, IsTurn, turns_of, wanted_in}
use Rattle.shared_rounds.specs.Books.{AreNumbers, asked_in}
use Rattle.shared_rounds.proofs.Turning.{alone}
use Rattle.plan_batches.specs.Batching.{IsRunOf, most_steps}
use Rattle.plan_batches.specs.Coming.{HasCome, HasWanted}
use Rattle.plan_batches.specs.Each.{Both}
use Rattle.plan_batches.specs.Members.{Ends}
use Rattle.plan_batches.specs.declared.member.Member.{Member}
use Rattle.plan_batches.specs.declared.round.Progress.{Progress}
use Rattle.plan_batches.proofs.Numbering.{its_number, its_request, number_below, one_place}
use Rattle.plan_batches.proofs.Pairing.{partner, zipped}

-- ---- the requests of a plan behind its last step

module _ (schema : SchemaParts) (facts : List Fact) (plan : Plan) where
  pub anew_all : (n : ℕ) → length (turns_of plan) ≤ n → (own : List Request) → AreRounds schema facts (plan ∷ []) Anew n own → AreRequests schema plan facts own
  anew_all zero long own are =
      let none : zero ≡ length (turns_of plan) = omega (arith, long) in
      (alone schema facts plan own).0 (subst (λ m. AreRounds schema facts (plan ∷ []) Anew m own) none are)
  anew_all (suc n) long own (asked, turns, before, z, e) = ⊎_elim
      (λ l.
      let last : suc n ≡ length (turns_of plan) = omega (arith, l, long) in
      (alone schema facts plan own).0 (subst (λ m. AreRounds schema facts (plan ∷ []) Anew m own) last (asked, turns, before, z, e)))
      (λ l. anew_all n l own (subst (λ (r : List Request). AreRounds schema facts (plan ∷ []) Anew n r) (sym (e ∙ nothing turns z (slice_get_past (turns_of plan) n l))) before))
      (cases_lt n (length (turns_of plan)))
    where
      nothing : (ts : List (List Request)) → AllZip (IsTurn schema facts n) (plan ∷ []) ts → slice_get (turns_of plan) n ≡ None → asked ++ wanted_in ts ≡ asked
      nothing [] z past = absurd z
      nothing (t ∷ []) z past =
          let none : t ≡ [] = subst (λ o. AreAskedAt schema facts o t) past z.0 in
          ap (λ (r : List Request). asked ++ wanted_in (r ∷ [])) none ∙ append-nil asked
      nothing (t ∷ u ∷ ts) z past = absurd z.1

-- ---- different requests by their numbers

at_each : (asked : List Request) (ks : List ℕ) → ((k : ℕ) → Contains ks k → k < length asked) → length (at_numbers asked ks) ≡ length ks
at_each asked [] within = refl
at_each asked (k ∷ ks) within =
    let (request, at) = got_below asked k (within k (contains_here k ks)) in
    ap (λ (o : Option Request). length (with_request o (at_numbers asked ks))) at ∙ ap suc (at_each asked ks (λ j c. within j (contains_there k ks j c)))

at_some : (asked : List Request) (ks : List ℕ) (r : Request) → Contains (at_numbers asked ks) r → (k : ℕ) × Contains ks k × (slice_get asked k ≡ Some r)
at_some asked [] r c = absurd (contains_none r c)
at_some asked (k ∷ ks) r c = go (slice_get asked k) refl c (λ h. at_some asked ks r h)
  where
    go : (o : Option Request) → slice_get asked k ≡ o → Contains (with_request o (at_numbers asked ks)) r
        → (Contains (at_numbers asked ks) r → (j : ℕ) × Contains ks j × (slice_get asked j ≡ Some r)) → (j : ℕ) × Contains (k ∷ ks) j × (slice_get asked j ≡ Some r)
    go None e h later = let (j, among, at) = later h in (j, contains_there k ks j among, at)
    go (Some x) e h later = ⊎_elim
        (λ same. (k, contains_here k ks, e ∙ ap Some same))
        (λ l. let (j, among, at) = later l in (j, contains_there k ks j among, at))
        (contains_cases x (at_numbers asked ks) r h)

some_at : (asked : List Request) (ks : List ℕ) (k : ℕ) (r : Request) → Contains ks k → slice_get asked k ≡ Some r → Contains (at_numbers asked ks) r
some_at asked [] k r c at = absurd (contains_none k c)
some_at asked (j ∷ ks) k r c at = ⊎_elim
    (λ same. here (slice_get asked j) (ap (slice_get asked) same ∙ at))
    (λ l. there (slice_get asked j) (some_at asked ks k r l at))
    (contains_cases j ks k c)
  where
    here : (o : Option Request) → o ≡ Some r → Contains (with_request o (at_numbers asked ks)) r
    here o e = subst (λ (x : Option Request). Contains (with_request x (at_numbers asked ks)) r) (sym e) (contains_here r (at_numbers asked ks))

    there : (o : Option Request) → Contains (at_numbers asked ks) r → Contains (with_request o (at_numbers asked ks)) r
    there None h = h
    there (Some x) h = contains_there x (at_numbers asked ks) r h

at_distinct : (asked : List Request) → AreDistinct asked → (ks : List ℕ) → AreDistinct ks → AreDistinct (at_numbers asked ks)
at_distinct asked d [] e = tt
at_distinct asked d (k ∷ ks) e = go (slice_get asked k) refl (at_distinct asked d ks e.1)
  where
    go : (o : Option Request) → slice_get asked k ≡ o → AreDistinct (at_numbers asked ks) → AreDistinct (with_request o (at_numbers asked ks))
    go None at rest = rest
    go (Some r) at rest = (
      (λ c. let (j, among, here) = at_some asked ks r c in e.0 (subst (λ n. Contains ks n) (one_place asked d j k r here at) among)),
      rest,
    )

pub is_made : (asked own : List Request) (numbers distinct : List ℕ) (made : ℕ) → AreDistinct asked → AreNumbers asked own numbers → AreDistinct distinct
    → ((n : ℕ) → Contains distinct n ↔ Contains numbers n) → made ≡ length distinct
    → (list : List Request) × AreDistinct list × ((r : Request) → Contains list r ↔ Contains own r) × (made ≡ length list)
is_made asked own numbers distinct made d are each same is = (
  at_numbers asked distinct,
  at_distinct asked d distinct each,
  (λ r. (
    (λ c.
        let (k, among, at) = at_some asked distinct r c in
        let (q, in_own, here) = its_request asked own numbers are k ((same k).0 among) in
        let e : q ≡ r = some_injective q r (sym here ∙ at) in
        subst (λ (x : Request). Contains own x) e in_own),
    (λ c. let (k, among, at) = its_number asked own numbers are r c in some_at asked distinct k r ((same k).1 among) at),
  )),
  is ∙ sym (at_each asked distinct (λ k c. number_below asked own numbers are k ((same k).0 c))),
)

-- ---- how many rounds there are

pub longest : (plans : List Plan) (plan : Plan) → Contains plans plan → length (turns_of plan) ≤ most_steps plans
longest [] plan c = absurd (contains_none plan c)
longest (p ∷ plans) plan c = ⊎_elim
    (λ e. let same = ap (λ (x : Plan). length (turns_of x)) e in omega (arith, same))
    (λ l. let h = longest plans plan l in omega (arith, h))
    (contains_cases p plans plan c)

-- ---- the runs

module _ {S : Type 0} (seen : S → Seen) (schema : Schema) (plans : List Plan) (old : List (Lane S)) (cap : ℕ) (progress : Progress) (new : List (Lane S))
    (come : HasCome seen schema plans old cap (most_steps plans) progress new) where
  abbrev asked : List Request
  asked = asked_in progress.book.asked.items

  -- each number is below the cap
  pub few_wanted : (member : Member) (number : ℕ) → Contains progress.members.items member → Contains member.wanted.items number → number < cap
  few_wanted member number among c =
      let (k, at) = got_member progress.members.items member among in
      let (plan, plan_at, own) = partner (HasWanted seen schema plans old (most_steps plans) asked) plans progress.members.items come.members k member at in
      let less = number_below asked own.own member.wanted.items own.numbers number c in
      let long = length-map progress.book.asked.items (λ (a : Ask). a.request) in
      let within = come.within in
      omega (arith, less, long, within)

  pub all_runs : (runs : List Run) → Both Ends progress.members.items runs → AllZip (IsRunOf seen schema plans new) plans runs
  all_runs runs ends = zipped (IsRunOf seen schema plans new) plans runs (record {
    long = ends.long ∙ come.members.long;
    at = λ k plan run plan_at run_at.
        let within = slice_get_within plans k plan plan_at in
        let long = come.members.long in
        let (member, member_at) = got_below progress.members.items k (omega (arith, within, long)) in
        let e = ends.at k member run member_at run_at in
        let own = come.members.at k plan member plan_at member_at in
        let of = longest plans plan (contains_got plans k plan plan_at) in
        let earlier = plan_held_earlier seen schema plan old new (each_asked seen schema asked old new come.rounds.asks) in
        record {
          rows = λ instance holds.
              e.all (meaning_of schema) instance plan (most_steps plans) (come.standing.members.at k plan member plan_at member_at) of
              (own.knows instance (earlier instance holds));
          ascends = e.ascends;
          made = λ instance holds. (
            own.own,
            anew_all (meaning_of schema) instance plan (most_steps plans) of own.own (own.are instance (earlier instance holds)),
            is_made asked own.own member.wanted.items e.distinct run.made come.standing.distinct own.numbers e.each_once e.same e.made,
          );
        };
  })
