-- What the lanes need for the rules, and have attached.
use Rattle.std.proofs.Common.{◌≡◌, ◌⊎◌, ◌↔◌, inl, inr, ◌<◌, ℕ, zero, suc, List, [], ◌∷◌, length, Option, refl, ◌∙◌, ap, subst, arith}
use Rattle.std.specs.Prelude.{Contains, IsSome, slice_get, Result, Ok, Err}
use Rattle.std.specs.List.Sorted.{IsStrictlyIncreasing}
use Rattle.lists.proofs.Members.{got_below, some_injective, contains_got}
use Rattle.meaning.specs.declared.types.Plan.{Plan}
use Rattle.access_schema.specs.declared.schema.Schema.{Schema}
use Rattle.source_trait.specs.Asking.{Seen}
use Rattle.source_trait.specs.declared.source.AttachFault.{AttachFault}
use Rattle.source_trait.specs.declared.source.AttachFault.TheVariants as attach
use Rattle.source_trait.specs.declared.lanes.Lane.{Lane}
use Rattle.middleware.specs.PlanSources.{line_for, IsAccessed}
use Rattle.middleware.specs.Needs.{needed, AreNeeded, LanesAttach, AttachBreaksAt, AttachesNeeded}
use Rattle.middleware.specs.Needs.AttachesNeeded.{done, no_source, unknown_kind, refused, no_memory}
use Rattle.middleware.specs.LaneBranches.{OnEach}
use Rattle.middleware.specs.LaneRunning.{IsAttachedTo}
use Rattle.middleware.specs.declared.fault.RunFault.{RunFault}
use Rattle.middleware.proofs.Attached.{order_attached_to}
use Rattle.middleware.proofs.Lacking.{rises_strictly, the_line}
use Rattle.middleware.proofs.Needing.{needed_alike}
use Rattle.middleware.proofs.LaneStays.{attach_none, attach_long, attached_each}
use Rattle.middleware.proofs.Starting.{accessed_there, relation_of}
use Rattle.data_verify.specs.declared.broken.Broken.{Broken}
use Rattle.rule_rows.specs.RuleRelations.{RulesName, AreRuleRelations, needed_first, needed_verified}
use Rattle.rule_rows.specs.Asking.{IsReady}
use Rattle.rule_rows.specs.Verifying.{TestsFirst, Verifies, used, others}
use Rattle.rule_rows.specs.Verifying.Verifies.{not_attached, not_asked, tested}
use Rattle.rule_rows.specs.declared.fault.VerifyFault.{VerifyFault}
use Rattle.rule_rows.specs.declared.fault.WholeFault.{WholeFault}
use Rattle.rule_rows.proofs.Attaching.{order_ready}

-- lists with the same members at each place are the same
same_at_each : {X : Type 0} (xs ys : List X) → ((k : ℕ) → slice_get xs k ≡ slice_get ys k) → xs ≡ ys
same_at_each [] [] each = refl
same_at_each [] (y ∷ ys) each = let first = each 0 in absurd (cc)
same_at_each (x ∷ xs) [] each = let first = each 0 in absurd (cc)
same_at_each (x ∷ xs) (y ∷ ys) each =
    let first : x ≡ y = some_injective x y (each 0) in
    let rest : xs ≡ ys = same_at_each xs ys (λ k. each (suc k)) in
    λ i. first i ∷ rest i

-- the empty list ascends, and has nothing
pub none_ascend : IsStrictlyIncreasing []
none_ascend = λ k less. absurd (omega arith)

pub none_among : (rel : ℕ) → Contains [] rel → ⊥
none_among rel c = omega arith

-- the list for the first lane is of what it needs
pub own_listed : (first behind : List ℕ) → IsStrictlyIncreasing first → AreNeeded (needed first behind) 0 first
own_listed first behind up = record { ascends = up; exactly = λ rel. ((λ c. c), (λ c. c)) }

-- without a lane no relation is attached
pub none_ready : {S : Type 0} (seen : S → Seen) (schema : Schema) (lanes : List (Lane S)) → lanes ≡ [] → (rel : ℕ) → IsReady seen schema (used lanes) rel → ⊥
none_ready seen schema [] empty rel ready = ready.attached
none_ready seen schema (lane ∷ lanes) empty rel ready = let long = ap length empty in absurd (omega (arith, long))

module _ (schema : Schema) where
  -- a relation that is named is one of the schema
  pub named_there : (rel : ℕ) → RulesName schema rel → IsSome (slice_get schema.relations rel)
  named_there rel n =
      let within : n.atom.rel < length schema.relations = ((schema.valid.rules_are.fit n.rule n.of_schema).atoms n.atom n.of_rule).placed in
      let (relation, is) = got_below schema.relations rel (subst (λ r. r < length schema.relations) n.of_relation within) in
      rw is refl

  -- the lists for the lanes have what these need
  pub listed_first : (rels : List ℕ) → AreRuleRelations schema rels → (place rel : ℕ) → needed rels [] place rel ↔ needed_first schema place rel
  listed_first rels are zero rel = ((λ c. (refl, (are.exactly rel).0 c)), (λ n. (are.exactly rel).1 n.1))
  listed_first rels are (suc place) rel = ((λ c. absurd (none_among rel c)), (λ n. let e = n.0 in absurd (omega (arith, e))))

  module _ (plan : Plan) (first behind : List ℕ) (of_plan : (rel : ℕ) → Contains behind rel ↔ IsAccessed schema plan rel)
      (both : (rel : ℕ) → Contains first rel ↔ (Contains behind rel ⊎ RulesName schema rel)) where
    pub listed_verified : (place rel : ℕ) → needed first behind place rel ↔ needed_verified schema plan place rel
    listed_verified zero rel = (
      (λ c. elim ((both rel).0 c) [
        | inl accessed ↦ inl ((of_plan rel).0 accessed)
        | inr named ↦ inr (refl, named)
      ]),
      (λ n. (both rel).1 (elim n [
        | inl accessed ↦ inl ((of_plan rel).1 accessed)
        | inr named ↦ inr named.1
      ])),
    )
    listed_verified (suc place) rel = (
      (λ c. inl ((of_plan rel).0 c)),
      (λ n. elim n [
        | inl accessed ↦ (of_plan rel).1 accessed
        | inr named ↦ let e = named.0 in absurd (omega (arith, e))
      ]),
    )

    pub first_there : (rel : ℕ) → Contains first rel → IsSome (slice_get schema.relations rel)
    first_there rel c = elim ((both rel).0 c) [
      | inl accessed ↦ accessed_there schema plan rel ((of_plan rel).0 accessed)
      | inr named ↦ named_there rel named
    ]

  -- ---- other words for what is needed

  module _ {S : Type 0} (seen : S → Seen) where
    module _ (IsNeeded Other : ℕ → ℕ → Type 0) (same : (place rel : ℕ) → IsNeeded place rel ↔ Other place rel) where
      tests_alike : (old new : List (Lane S)) (result : Result (Option Broken) WholeFault) → TestsFirst seen schema IsNeeded old new result
          → TestsFirst seen schema Other old new result
      tests_alike old new result t = record {
        rels = t.rels;
        are = record {
          ascends = t.are.ascends;
          exactly = λ rel. ((λ c. (same 0 rel).0 ((t.are.exactly rel).0 c)), (λ n. (t.are.exactly rel).1 ((same 0 rel).1 n)));
        };
        tests = t.tests;
        behind = t.behind;
        stay = t.stay;
      }

      -- what verifying gave for one, it gave for the other
      pub verifies_alike : (old new : List (Lane S)) (result : Result (Option Broken) VerifyFault) → Verifies seen schema IsNeeded old new result
          → Verifies seen schema Other old new result
      verifies_alike old new result (not_attached why attaches) = not_attached why (needed_alike IsNeeded Other same seen schema old new (Err why) attaches)
      verifies_alike old new result (not_asked middle why attaches tests) =
          not_asked middle why (needed_alike IsNeeded Other same seen schema old middle (Ok tt) attaches) (tests_alike middle new (Err why) tests)
      verifies_alike old new result (tested middle found attaches tests) =
          tested middle found (needed_alike IsNeeded Other same seen schema old middle (Ok tt) attaches) (tests_alike middle new (Ok found) tests)

    -- ---- once they are attached

    module _ (IsNeeded : ℕ → ℕ → Type 0) where
      none_needed : (old : List (Lane S)) (new : List (Lane S)) → AttachesNeeded seen schema IsNeeded old new (Ok tt) → old ≡ [] → (place rel : ℕ)
          → IsNeeded place rel → ⊥
      none_needed old new (done each have) empty place rel need =
          let (line, is) = the_line (line_for rel schema.sources) (have.lines rel (place, need)) in
          have.kinds rel line (place, need) is (inl empty)

      -- the first lane may be asked for each that it needs
      pub first_ready : (old new : List (Lane S)) → AttachesNeeded seen schema IsNeeded old new (Ok tt) → (rel : ℕ) → IsNeeded 0 rel
          → IsReady seen schema (used new) rel
      first_ready [] new attaches rel need = absurd (none_needed [] new attaches refl 0 rel need)
      first_ready (w ∷ ws) [] (done each have) rel need = absurd each.order
      first_ready (w ∷ ws) (u ∷ us) (done each have) rel need =
          order_ready seen schema (each.rels zero) w.kinds.items u.kinds.items each.order.0.order rel (((each.are zero).exactly rel).1 need)

      -- there is a lane for each relation that is needed
      pub some_lane : (old new : List (Lane S)) → AttachesNeeded seen schema IsNeeded old new (Ok tt) → (place rel : ℕ) → IsNeeded place rel
          → 0 < length new
      some_lane [] new attaches place rel need = absurd (none_needed [] new attaches refl place rel need)
      some_lane (w ∷ ws) new (done each have) place rel need =
          let long = attach_long seen schema each.rels (w ∷ ws) new each.order in omega (arith, long)

      -- and each lane has attached what each of them needs
      pub each_attached : (plan : Plan) (old new : List (Lane S)) → AttachesNeeded seen schema IsNeeded old new (Ok tt) → (rel : ℕ)
          → IsAccessed schema plan rel → ((place : ℕ) → IsNeeded place rel) → OnEach new (IsAttachedTo seen schema rel)
      each_attached plan old new (done each have) rel accessed need =
          let (line, line_is) = the_line (line_for rel schema.sources) (have.lines rel (0, need 0)) in
          let (relation, relation_is) = relation_of schema plan rel accessed in
          attached_each seen schema (IsAttachedTo seen schema rel) each.rels
          (λ place before after order. order_attached_to seen schema (each.rels place) (rises_strictly (each.rels place) (each.are place).ascends) rel
          (((each.are place).exactly rel).1 (need place)) relation line relation_is line_is before after order)
          old new each.order

    -- ---- the lanes behind the first stay

    behind_break : (rel : ℕ) (why : AttachFault) (old new : List (Lane S)) → AttachBreaksAt seen schema (needed_first schema) rel why old new
        → others new ≡ others old
    behind_break rel why [] new b = let was = b.breaks.was in absurd (cc)
    behind_break rel why (w ∷ ws) [] b = let now = b.breaks.now in absurd (cc)
    behind_break rel why (w ∷ ws) (u ∷ us) b = same_at_each us ws (λ k. b.breaks.later (suc k)
        (let first = (((b.are b.breaks.place).exactly rel).0 (contains_got (b.rels b.breaks.place) b.breaks.refused.n rel b.breaks.refused.at)).0 in
        omega (arith, first)))

    attaches_behind : (old new : List (Lane S)) (result : Result (Unit {0}) RunFault) → AttachesNeeded seen schema (needed_first schema) old new result
        → others new ≡ others old
    attaches_behind old new result (done each have) = go each.rels each.are old new each.order
      where
        go : (rels : ℕ → List ℕ) → ((place : ℕ) → AreNeeded (needed_first schema) place (rels place)) → (old new : List (Lane S))
            → LanesAttach seen schema rels old new → others new ≡ others old
        go rels are [] [] order = refl
        go rels are [] (u ∷ us) order = absurd order
        go rels are (w ∷ ws) [] order = absurd order
        go rels are (w ∷ ws) (u ∷ us) order = attach_none seen schema (λ place. rels (suc place))
            (λ place rel c. let e = (((are (suc place)).exactly rel).0 c).0 in omega (arith, e)) ws us order.1
    attaches_behind old new result (no_source rel first same) = ap others same
    attaches_behind old new result (unknown_kind rel first same) = ap others same
    attaches_behind old new result (refused rel why breaks have apart) = behind_break rel why old new breaks
    attaches_behind old new result (no_memory (inl same)) = ap others same
    attaches_behind old new result (no_memory (inr (rel, breaks))) = behind_break rel attach.NoMemory old new breaks

    pub verifies_behind : (old new : List (Lane S)) (result : Result (Option Broken) VerifyFault)
        → Verifies seen schema (needed_first schema) old new result → others new ≡ others old
    verifies_behind old new result (not_attached why attaches) = attaches_behind old new (Err why) attaches
    verifies_behind old new result (not_asked middle why attaches tests) = tests.behind ∙ attaches_behind old middle (Ok tt) attaches
    verifies_behind old new result (tested middle found attaches tests) = tests.behind ∙ attaches_behind old middle (Ok tt) attaches
