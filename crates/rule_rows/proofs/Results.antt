-- What became of the rules, by where testing them stopped.
use Rattle.std.proofs.Common.{◌≡◌, ◌<◌, inl, inr, ℕ, List, [], ◌∷◌, length, get_or, set, Option, None, Result, Ok, Err, refl, sym, subst, arith}
use Rattle.std.specs.Prelude.{Contains}
use Rattle.std.specs.List.Sorted.{IsStrictlyIncreasing}
use Rattle.lists.proofs.Members.{contains_here, contains_there, contains_cases}
use Rattle.meaning.specs.declared.types.Fact.{Fact}
use Rattle.meaning.specs.declared.types.Plan.{Plan}
use Rattle.access_schema.specs.declared.schema.Schema.{Schema}
use Rattle.source_trait.specs.Asking.{Seen}
use Rattle.source_trait.specs.Lanes.{KindsStay, LanesStay}
use Rattle.source_trait.specs.declared.lanes.Kind.{Kind}
use Rattle.source_trait.specs.declared.lanes.Lane.{Lane}
use Rattle.source_trait.proofs.LaneSteps.{LanesStay-refl}
use Rattle.middleware.specs.PlanSources.{IsAccessed}
use Rattle.middleware.specs.LaneBranches.{OnEach}
use Rattle.middleware.specs.LaneRunning.{IsAttachedTo}
use Rattle.middleware.proofs.Lacking.{rises_strictly}
use Rattle.data_verify.specs.declared.broken.Broken.{Broken}
use Rattle.rule_rows.specs.RuleRelations.{RulesName, needed_verified}
use Rattle.rule_rows.specs.Asking.{IsReady, AsksInOrder, AskStop}
use Rattle.rule_rows.specs.Asking.AskStop.{no_memory as ask_memory, failed, bad_number as ask_bad}
use Rattle.rule_rows.specs.Verifying.{IsVerified, Tests, Verifies, used, others}
use Rattle.rule_rows.specs.Verifying.Tests.{no_memory, not_asked, bad_number, done}
use Rattle.rule_rows.specs.Verifying.Verifies.{tested}
use Rattle.rule_rows.specs.declared.fault.WholeFault.{WholeFault}
use Rattle.rule_rows.proofs.Asking.{asked_attached}
use Rattle.rule_rows.proofs.Holding.{instance_asked}
use Rattle.rule_rows.proofs.Alike.{verified_there}
use Rattle.rule_rows.proofs.Missing.{some_lane, each_attached}

module _ {S : Type 0} (seen : S → Seen) (schema : Schema) (rels : List ℕ) (old new : List (Kind S)) where
  pub unasked : (why : WholeFault) → AskStop seen schema rels old new why → Tests seen schema rels old new (Err why)
  unasked why (ask_memory part) = no_memory part
  unasked why (failed rel b) = not_asked rel b
  unasked why (ask_bad rel column b) = bad_number rel column b

  pub all_found : IsStrictlyIncreasing rels → ((rel : ℕ) → RulesName schema rel → Contains rels rel)
      → ((rel : ℕ) → Contains rels rel → IsReady seen schema old rel) → (facts : List Fact) (found : Option Broken)
      → AsksInOrder seen schema rels facts old new → IsVerified schema facts found → Tests seen schema rels old new (Ok found)
  all_found up among ready facts found asked is = done found (record {
    facts = facts;
    asked = asked;
    of_facts = is;
    of_held = λ instance holds. verified_there schema facts instance (λ rel named.
        instance_asked seen schema rels (rises_strictly rels up) facts old new asked rel (among rel named) (ready rel (among rel named)) instance
        (λ line is. holds rel line named is)) found is;
  })

-- the first of the lanes
module _ {S : Type 0} (seen : S → Seen) (lanes : List (Lane S)) (lane after : Lane S) (some : 0 < length lanes) (is : lane ≡ get_or lanes 0 lane) where
  pub used_first : used lanes ≡ lane.kinds.items
  used_first = go lanes some is
    where
      go : (l : List (Lane S)) → 0 < length l → lane ≡ get_or l 0 lane → used l ≡ lane.kinds.items
      go [] some is = absurd (omega (arith, some))
      go (x ∷ rest) some is = subst (λ (y : Lane S). x.kinds.items ≡ y.kinds.items) (sym is) refl

  pub first_used : (schema : Schema) (rels : List ℕ) (result : Result (Option Broken) WholeFault)
      → Tests seen schema rels lane.kinds.items after.kinds.items result → Tests seen schema rels (used lanes) (used (set lanes 0 after)) result
  first_used schema rels result v = go lanes some is
    where
      go : (l : List (Lane S)) → 0 < length l → lane ≡ get_or l 0 lane → Tests seen schema rels (used l) (used (set l 0 after)) result
      go [] some is = absurd (omega (arith, some))
      go (x ∷ rest) some is = subst (λ (y : Lane S). Tests seen schema rels y.kinds.items after.kinds.items result) is v

  pub first_others : others (set lanes 0 after) ≡ others lanes
  first_others = go lanes some
    where
      go : (l : List (Lane S)) → 0 < length l → others (set l 0 after) ≡ others l
      go [] some = absurd (omega (arith, some))
      go (x ∷ rest) some = refl

  pub first_stay : KindsStay seen lane.kinds.items after.kinds.items → LanesStay seen lanes (set lanes 0 after)
  first_stay stays = go lanes some is
    where
      go : (l : List (Lane S)) → 0 < length l → lane ≡ get_or l 0 lane → LanesStay seen l (set l 0 after)
      go [] some is = absurd (omega (arith, some))
      go (x ∷ rest) some is = (subst (λ (y : Lane S). KindsStay seen y.kinds.items after.kinds.items) is stays, LanesStay-refl seen rest)

-- what the tests leave attached, and how many lanes
module _ {S : Type 0} (seen : S → Seen) (schema : Schema) where
  still_attached : (rels : List ℕ) (facts : List Fact) (rel : ℕ) (middle new : List (Lane S)) → LanesStay seen middle new → others new ≡ others middle
      → AsksInOrder seen schema rels facts (used middle) (used new) → OnEach middle (IsAttachedTo seen schema rel) → OnEach new (IsAttachedTo seen schema rel)
  still_attached rels facts rel middle [] stay behind asked each = λ lane among. absurd (omega arith)
  still_attached rels facts rel [] (u ∷ us) stay behind asked each = absurd stay
  still_attached rels facts rel (w ∷ ws) (u ∷ us) stay behind asked each = λ lane among. elim (contains_cases u us lane among) [
    | inl here ↦ subst (λ (l : Lane S). IsAttachedTo seen schema rel l.kinds.items) here
        (asked_attached seen schema rels facts w.kinds.items u.kinds.items asked rel (each w (contains_here w ws)))
    | inr there ↦ each lane (contains_there w ws lane (subst (λ (l : List (Lane S)). Contains l lane) behind there))
  ]

  still_long : (middle new : List (Lane S)) → LanesStay seen middle new → length new ≡ length middle
  still_long [] [] stay = refl
  still_long [] (u ∷ us) stay = absurd stay
  still_long (w ∷ ws) [] stay = absurd stay
  still_long (w ∷ ws) (u ∷ us) stay = let more = still_long ws us stay.1 in omega (arith, more)

  -- where the rules are met, the plan can be executed
  module _ (plan : Plan) (old new : List (Lane S)) where
    pub verified_lane : Verifies seen schema (needed_verified schema plan) old new (Ok None) → (rel : ℕ) → IsAccessed schema plan rel → 0 < length new
    verified_lane (tested middle found attaches tests) rel accessed =
        let long = still_long middle new tests.stay in
        let some = some_lane schema seen (needed_verified schema plan) old middle attaches 0 rel (inl accessed) in
        omega (arith, long, some)

    pub verified_attached : Verifies seen schema (needed_verified schema plan) old new (Ok None) → (rel : ℕ) → IsAccessed schema plan rel
        → OnEach new (IsAttachedTo seen schema rel)
    verified_attached (tested middle found attaches tests) rel accessed = go tests.tests
      where
        go : Tests seen schema tests.rels (used middle) (used new) (Ok None) → OnEach new (IsAttachedTo seen schema rel)
        go (done found f) = still_attached tests.rels f.facts rel middle new tests.stay tests.behind f.asked
            (each_attached schema seen (needed_verified schema plan) plan old middle attaches rel accessed (λ place. inl accessed))
