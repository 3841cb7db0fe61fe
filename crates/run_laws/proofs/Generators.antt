-- Lanes with a new generator offer the instance of a world, and what they execute of a least plan gives its line.
use Rattle.std.proofs.Common.{◌≡◌, ◌+◌, ◌-◌, ◌*◌, ◌<◌, ◌≤◌, ℕ, zero, suc, false, List, [], ◌∷◌, ◌++◌, length, take, slice_get, Option, Some, Result, Ok, refl, sym, ap, subst, ◌∙◌, arith}
use Rattle.std.specs.Prelude.{Contains, codes, is_some, IsSomeAnd}
use Rattle.std.specs.List.{range_with_len}
use Rattle.std.proofs.lemmas.List.{length-append}
use Rattle.lists.proofs.Members.{contains_got, contains_map, contains_mapped, contains_joined, contains_here, contains_there, some_injective}
use Rattle.meaning.specs.declared.types.Fact.{Fact}
use Rattle.meaning.specs.declared.types.Relation.{Relation}
use Rattle.meaning.specs.declared.types.SchemaParts.{SchemaParts}
use Rattle.meaning.specs.declared.types.Branch.{Branch}
use Rattle.meaning.specs.declared.types.Plan.{Plan}
use Rattle.meaning.specs.declared.types.Request.{Request}
use Rattle.meaning.specs.Plans.{IsMethod}
use Rattle.meaning.specs.Requests.{IsRound, AreStepsRequests, AreBranchesRequests, AreRequests}
use Rattle.access_schema.specs.declared.schema.Schema.{Schema}
use Rattle.access_schema.specs.declared.schema.SourceLine.{SourceLine}
use Rattle.access_schema.specs.Meaning.{meaning_of}
use Rattle.source_trait.specs.Asking.{RowList, Seen, FaultsGoOn, facts_of}
use Rattle.source_trait.specs.Causes.{Rose}
use Rattle.source_trait.specs.Lanes.{source_of, AtKind, KindsStay, LanesStay}
use Rattle.source_trait.specs.declared.lanes.Kind.{Kind}
use Rattle.source_trait.specs.declared.lanes.Lane.{Lane}
use Rattle.source_trait.specs.declared.source.AttachFault.{AttachFault}
use Rattle.middleware.specs.PlanSources.{line_for, IsAccessed}
use Rattle.middleware.specs.Held.{SameFacts}
use Rattle.middleware.specs.LaneBranches.{OnEach}
use Rattle.middleware.proofs.LaneRuns.{earlier_source}
use Rattle.world_source.specs.Formulas.{locator, offered, row_of, rows_of, rows_or}
use Rattle.world_source.specs.Generated.{IsFresh}
use Rattle.world_source.proofs.Numbers.{named}
use Rattle.pdq_core.specs.Complete.{OnLanes, NoRiseOf, NoSourceRose, OffersFacts, OfferInstance, KeepsCap, located}
use Rattle.command_io.specs.declared.delivery.TheConstants.{CALLS}
use Rattle.world_laws.specs.World.{IsWorldSchema, source_with, world_sources}
use Rattle.world_laws.specs.Plan.{world}
use Rattle.world_laws.specs.Instance.{facts_of as own_facts, world_facts}
use Rattle.world_laws.proofs.Read.{world_meaning}
use Rattle.world_laws.proofs.Paths.{own, two_columns}
use Rattle.world_laws.proofs.Chases.{range_got}
use Rattle.world_laws.proofs.Counts.{requests_counted, requests_within}
use Rattle.world_laws.proofs.Columns as turns
use Rattle.run_laws.specs.Deciding.{HasOneBranch}
use Rattle.pdq_core.specs.Generators.{HasGenerator}

-- ---- faults

module _ {S : Type 0} (seen : S → Seen) where
  -- a new generator counts no fault later on
  no_rise : (source after : S) → IsFresh (seen source) → FaultsGoOn (seen source) (seen after) → Rose (seen source).faults (seen after).faults → ⊥
  no_rise source after fresh goes rose = omega arith

  kinds_calm : (old new : List (Kind S)) → KindsStay seen old new → HasGenerator seen old → NoRiseOf seen (codes "world") old new
  kinds_calm old new stay has before after was now rose =
      let (source, there, goes) = earlier_source seen old new (codes "world") after stay now in
      let own : has.source ≡ source = some_injective has.source source (sym has.there ∙ there) in
      let same : before ≡ source = some_injective before source (sym was ∙ there) in
      no_rise source after (subst (λ (s : S). IsFresh (seen s)) own has.fresh) goes (subst (λ (s : S). Rose (seen s).faults (seen after).faults) same rose)

  pub lanes_calm : (old new : List (Lane S)) → LanesStay seen old new → OnEach old (HasGenerator seen) → OnLanes (NoRiseOf seen (codes "world")) old new
  lanes_calm [] [] stay has = tt
  lanes_calm [] (u ∷ us) stay has = absurd stay
  lanes_calm (w ∷ ws) [] stay has = absurd stay
  lanes_calm (w ∷ ws) (u ∷ us) stay has =
      (kinds_calm w.kinds.items u.kinds.items stay.0 (has w (contains_here w ws)), lanes_calm ws us stay.1 (λ lane among. has lane (contains_there w ws lane among)))

-- ---- source lines

world_line : (n rel : ℕ) → rel < 8 → line_for rel (world_sources n) ≡ Some (source_with n (rel + 1))
world_line n zero low = refl
world_line n (suc zero) low = refl
world_line n (suc (suc zero)) low = refl
world_line n (suc (suc (suc zero))) low = refl
world_line n (suc (suc (suc (suc zero)))) low = refl
world_line n (suc (suc (suc (suc (suc zero))))) low = refl
world_line n (suc (suc (suc (suc (suc (suc zero)))))) low = refl
world_line n (suc (suc (suc (suc (suc (suc (suc zero))))))) low = refl
world_line n (suc (suc (suc (suc (suc (suc (suc (suc rel)))))))) low = absurd (omega (arith, low))

abbrev fact_with : ℕ → List (List ℕ) → Fact
fact_with rel row = record { rel = rel; row = row }

module _ (n : ℕ) (some : 1 ≤ n) (few : n ≤ 10000) (schema : Schema) (is : IsWorldSchema n schema) where
  line_is : (rel : ℕ) → rel < 8 → line_for rel schema.sources ≡ Some (source_with n (rel + 1))
  line_is rel low = ap (line_for rel) is.sources ∙ world_line n rel low

  accessed_low : (plan : Plan) (rel : ℕ) → IsAccessed schema plan rel → rel < 8
  accessed_low plan rel needed =
      let named : IsMethod world needed.step.method needed.method = subst (λ (s : SchemaParts). IsMethod s needed.step.method needed.method) (world_meaning n schema is) needed.named in
      let low = (own needed.method named.0).few in
      let same = needed.of_relation in
      omega (arith, low, same)

  -- ---- rows

  same_rows : (rel : ℕ) → rel < 8 → SameFacts rel (facts_of rel (rows_of (rel + 1) n)) (world_facts n)
  same_rows rel low row = (there, back)
    where
      there : Contains (facts_of rel (rows_of (rel + 1) n)) (record { rel = rel; row = row }) → Contains (world_facts n) (record { rel = rel; row = row })
      there among =
          let (its, in_rows, same) = contains_mapped (λ (r : List (List ℕ)). fact_with rel r) (rows_of (rel + 1) n) (fact_with rel row) among in
          let place : 1 + rel ≡ rel + 1 = omega arith in
          let back : rel + 1 - 1 ≡ rel = omega arith in
          let own_fact : Contains (own_facts n (rel + 1)) (fact_with (rel + 1 - 1) its) = contains_map (λ (r : List (List ℕ)). fact_with (rel + 1 - 1) r) (rows_of (rel + 1) n) its in_rows in
          subst (Contains (world_facts n)) (ap (λ r. fact_with r its) back ∙ same)
          (contains_joined (own_facts n) (range_with_len 1 8) (rel + 1) (fact_with (rel + 1 - 1) its) (contains_got (range_with_len 1 8) rel (rel + 1) (range_got 1 8 rel low ∙ ap Some place)) own_fact)

      back : Contains (world_facts n) (record { rel = rel; row = row }) → Contains (facts_of rel (rows_of (rel + 1) n)) (record { rel = rel; row = row })
      back among =
          let numbered = turns.found n some few (fact_with rel row) among in
          let same_rel : rel ≡ numbered.rel = ap (λ (f : Fact). f.rel) numbered.fact_is in
          let same_row : row ≡ row_of (rel + 1) n numbered.i = ap (λ (f : Fact). f.row) numbered.fact_is ∙ ap (λ r. row_of (r + 1) n numbered.i) (sym same_rel) in
          let place : 0 + numbered.i ≡ numbered.i = omega arith in
          let its : Contains (rows_of (rel + 1) n) (row_of (rel + 1) n numbered.i) = contains_map (row_of (rel + 1) n) (range_with_len 0 n) numbered.i (contains_got (range_with_len 0 n) numbered.i numbered.i (range_got 0 n numbered.i numbered.below ∙ ap Some place)) in
          subst (λ (r : List (List ℕ)). Contains (facts_of rel (rows_of (rel + 1) n)) (fact_with rel r)) (sym same_row) (contains_map (λ (r : List (List ℕ)). fact_with rel r) (rows_of (rel + 1) n) (row_of (rel + 1) n numbered.i) its)

  offered_rows : (rel : ℕ) → rel < 8 → offered (locator (rel + 1) n) 2 ≡ Ok (rows_of (rel + 1) n)
  offered_rows rel low = ap (λ (p : Option (ℕ × ℕ)). rows_or p 2) (named (rel + 1) n (record { some_step = omega arith; few_steps = omega (arith, low); some = some; few = few }))

  module _ {S : Type 0} (seen : S → Seen) (kinds : List (Kind S)) (has : HasGenerator seen kinds) where
    its_facts : (rel : ℕ) (relation : Relation) → rel < 8 → slice_get schema.relations rel ≡ Some relation → OffersFacts (seen has.source) rel relation.columns (locator (rel + 1) n) (world_facts n)
    its_facts rel relation low at =
        let two : length relation.columns ≡ 2 = two_columns rel relation (sym (ap (λ rs. slice_get rs rel) is.relations) ∙ at) in
        record {
          rows = rows_of (rel + 1) n;
          tells = ap is_some has.fresh.held;
          offered = ap (λ (o : ℕ → List (List ℕ) → List ℕ → Option (Result RowList AttachFault)). o rel relation.columns (locator (rel + 1) n)) has.fresh.offer ∙ ap (λ c. Some (offered (locator (rel + 1) n) c)) two ∙ ap (λ (r : Result RowList AttachFault). Some r) (offered_rows rel low);
          same = same_rows rel low;
        }

    -- what holds of the generator holds at the line of each relation
    at_line : (rel : ℕ) (line : SourceLine) → rel < 8 → line_for rel schema.sources ≡ Some line → (P : SourceLine → S → Type 0) → P (source_with n (rel + 1)) has.source → AtKind kinds line.kind (P line)
    at_line rel line low at P holds =
        let same : source_with n (rel + 1) ≡ line = some_injective (source_with n (rel + 1)) line (sym (line_is rel low) ∙ at) in
        subst (λ (l : SourceLine). AtKind kinds l.kind (P l)) same (subst (λ (o : Option S). IsSomeAnd o (P (source_with n (rel + 1)))) (sym has.there) holds)

    pub generator_offers : (plan : Plan) → OfferInstance seen schema (IsAccessed schema plan) kinds (world_facts n)
    generator_offers plan = record {
      lines = λ rel needed. ap is_some (line_is rel (accessed_low plan rel needed));
      kinds_are = λ rel line needed at.
          let same : source_with n (rel + 1) ≡ line = some_injective (source_with n (rel + 1)) line (sym (line_is rel (accessed_low plan rel needed)) ∙ at) in
          ap (λ (l : SourceLine). is_some (source_of kinds l.kind)) (sym same) ∙ ap is_some has.there;
      fits = λ rels rel line up are needed at.
          at_line rel line (accessed_low plan rel needed) at (λ its source. (seen source).passes (located schema its.kind (rels ++ rel ∷ [])) ≡ false) (has.fresh.passes (located schema (codes "world") (rels ++ rel ∷ [])));
      facts = λ rel relation line needed relation_is at. at_line rel line (accessed_low plan rel needed) at (λ its source. OffersFacts (seen source) rel relation.columns its.locator (world_facts n)) (its_facts rel relation (accessed_low plan rel needed) relation_is);
    }

  -- the sources of a plan are those of one kind
  pub world_calm : {S : Type 0} (seen : S → Seen) (plan : Plan) (old new : List (Kind S)) → NoRiseOf seen (codes "world") old new → NoSourceRose seen schema (IsAccessed schema plan) old new
  world_calm seen plan old new calm rel line needed at =
      let same : source_with n (rel + 1) ≡ line = some_injective (source_with n (rel + 1)) line (sym (line_is rel (accessed_low plan rel needed)) ∙ at) in
      subst (λ (l : SourceLine). NoRiseOf seen l.kind old new) same calm

  -- ---- requests

  one_only : (branch its : Branch) (k : ℕ) → slice_get (branch ∷ []) k ≡ Some its → (k ≡ 0) × (branch ≡ its)
  one_only branch its zero at = (refl, some_injective branch its at)
  one_only branch its (suc k) at = absurd cc

  module _ (plan : Plan) (has : HasOneBranch plan) where
    pub requests_made : (requests : List Request) → AreRequests (meaning_of schema) plan (world_facts n) requests → length requests ≡ 7 * n + 1
    requests_made requests are =
        let here : AreBranchesRequests world (world_facts n) (has.branch ∷ []) requests = subst (λ (bs : List Branch). AreBranchesRequests world (world_facts n) bs requests) has.only (subst (λ (s : SchemaParts). AreRequests s plan (world_facts n) requests) (world_meaning n schema is) are) in
        let (now, later, split, steps, none) = here in
        let long = requests_counted n some few has.branch now has.rival has.cost steps in
        let count = ap length split ∙ length-append now later in
        let nothing = ap length none in
        omega (arith, long, count, nothing)

    pub keeps_cap : KeepsCap schema plan (world_facts n) CALLS
    keeps_cap branch step earlier now round =
        let meant = world_meaning n schema is in
        let (first, same) = one_only has.branch round.its_branch branch (ap (λ (bs : List Branch). slice_get bs branch) (sym has.only) ∙ round.there.of_plan) in
        let steps : AreStepsRequests world (world_facts n) [] (take step has.branch.steps) round.of_steps = subst (λ (b : Branch). AreStepsRequests world (world_facts n) [] (take step b.steps) round.of_steps) (sym same) (subst (λ (s : SchemaParts). AreStepsRequests s (world_facts n) [] (take step round.its_branch.steps) round.of_steps) meant round.steps_are) in
        let own_round : IsRound world (world_facts n) (take step has.branch.steps) round.its_step now = subst (λ (b : Branch). IsRound world (world_facts n) (take step b.steps) round.its_step now) (sym same) (subst (λ (s : SchemaParts). IsRound s (world_facts n) (take step round.its_branch.steps) round.its_step now) meant round.now_is) in
        let at : slice_get has.branch.steps step ≡ Some round.its_step = ap (λ (b : Branch). slice_get b.steps step) same ∙ round.there.of_branch in
        let most = requests_within n some few has.branch step round.its_step round.of_steps now has.rival has.cost at steps own_round in
        let none : round.of_branches ≡ [] = subst (λ k. AreBranchesRequests (meaning_of schema) (world_facts n) (take k plan.branches) round.of_branches) first round.branches_are in
        let nothing = ap length none in
        let count = ap length round.earlier_is ∙ length-append round.of_branches round.of_steps in
        omega (arith, most, nothing, count, few)
