-- Lanes that are started, placed and attached: what holds of each of them, and that no count of theirs falls.
use Rattle.std.proofs.Common.{◌≡◌, ◌⊎◌, inl, inr, ℕ, zero, suc, ◌<◌, List, [], ◌∷◌, length, map, Some, refl, sym, ◌∙◌, ap, subst, arith}
use Rattle.std.specs.Prelude.{Contains, slice_get, Err}
use Rattle.std.specs.List.{AllZip}
use Rattle.lists.proofs.Members.{some_injective, contains_here, contains_cases, contains_mapped}
use Rattle.access_schema.specs.declared.schema.Schema.{Schema}
use Rattle.source_trait.specs.Asking.{Seen}
use Rattle.source_trait.specs.Lanes.{KindsStay, LanesStay}
use Rattle.source_trait.specs.declared.source.AttachFault.{AttachFault}
use Rattle.source_trait.specs.declared.lanes.Kind.{Kind}
use Rattle.source_trait.specs.declared.lanes.Lane.{Lane}
use Rattle.source_trait.proofs.LaneSteps.{KindsStay-refl, KindsStay-trans}
use Rattle.middleware.specs.Attaching.{AttachesInOrder}
use Rattle.middleware.specs.Needs.{AttachesLane, LanesAttach, LanesBreak}
use Rattle.middleware.specs.LaneRounds.{started, LanesAsked, AsksEach, NoneStopped}
use Rattle.middleware.specs.LaneBranches.{OnEach}
use Rattle.middleware.proofs.Attached.{order_stays, one_stays}
use Rattle.middleware.proofs.LaneShares.{AsksEach-refl, OnlyAsked}

-- what holds of the members at each place of two lists that are as long
zip_places : {X Y : Type 0} (R : X → Y → Type 0) (xs : List X) (ys : List Y) → length ys ≡ length xs
    → ((k : ℕ) (x : X) (y : Y) → slice_get xs k ≡ Some x → slice_get ys k ≡ Some y → R x y) → AllZip R xs ys
zip_places R [] [] long each = tt
zip_places R [] (y ∷ ys) long each = absurd (omega arith)
zip_places R (x ∷ xs) [] long each = absurd (omega arith)
zip_places R (x ∷ xs) (y ∷ ys) long each = (each 0 x y refl refl, zip_places R xs ys (omega arith) (λ k a b. each (suc k) a b))

module _ {S : Type 0} where
  -- lanes that are started have the sources that they had
  pub started_each : (lanes : List (Lane S)) (P : List (Kind S) → Type 0) → OnEach lanes P → OnEach (map started lanes) P
  started_each lanes P all lane among =
      let (its, c, is) = contains_mapped started lanes lane among in
      subst (λ (l : Lane S). P l.kinds.items) is (all its c)

  pub all_going : (lanes : List (Lane S)) → NoneStopped (map started lanes)
  all_going [] = tt
  all_going (lane ∷ lanes) = (refl, all_going lanes)

module _ {S : Type 0} (seen : S → Seen) where
  pub started_stay : (lanes : List (Lane S)) → LanesStay seen lanes (map started lanes)
  started_stay [] = tt
  started_stay (lane ∷ lanes) = (KindsStay-refl seen lane.kinds.items, started_stay lanes)

  module _ (schema : Schema) where
    pub asked_stay : (old new : List (Lane S)) → OnlyAsked seen schema old new → LanesStay seen old new
    asked_stay [] [] h = tt
    asked_stay [] (u ∷ us) h = absurd h
    asked_stay (w ∷ ws) [] h = absurd h
    asked_stay (w ∷ ws) (u ∷ us) h = (h.0.1.stay, asked_stay ws us h.1)

    -- lanes that are started, and asked nothing, before they were started
    pub unstarted : (lanes : List (Lane S)) → AsksEach seen schema [] (map started lanes) lanes
    unstarted lanes = let none = AsksEach-refl seen schema lanes in record {
      lists = none.lists;
      ascend = none.ascend;
      once = none.once;
      lanes = go lanes none.lists none.lanes;
    }
      where
        go : (ws : List (Lane S)) (lists : List (List ℕ)) → LanesAsked seen schema [] lists ws ws → LanesAsked seen schema [] lists (map started ws) ws
        go [] [] h = tt
        go [] (l ∷ ls) h = absurd h
        go (w ∷ ws) [] h = absurd h
        go (w ∷ ws) (l ∷ ls) h = (h.0, go ws ls h.1)

    pub attach_stay : (rels : ℕ → List ℕ) (old new : List (Lane S)) → LanesAttach seen schema rels old new → LanesStay seen old new
    attach_stay rels [] [] h = tt
    attach_stay rels [] (u ∷ us) h = absurd h
    attach_stay rels (w ∷ ws) [] h = absurd h
    attach_stay rels (w ∷ ws) (u ∷ us) h =
        (order_stays seen schema (rels zero) w.kinds.items u.kinds.items h.0.order, attach_stay (λ place. rels (suc place)) ws us h.1)

    -- what attaches bring about holds of each lane
    pub attached_each : (P : List (Kind S) → Type 0) (rels : ℕ → List ℕ)
        → ((place : ℕ) (a b : List (Kind S)) → AttachesInOrder seen schema (rels place) a b → P b)
        → (old new : List (Lane S)) → LanesAttach seen schema rels old new → OnEach new P
    attached_each P rels brings [] [] h = λ lane among. absurd (omega arith)
    attached_each P rels brings [] (u ∷ us) h = absurd h
    attached_each P rels brings (w ∷ ws) [] h = absurd h
    attached_each P rels brings (w ∷ ws) (u ∷ us) h = λ lane among. elim (contains_cases u us lane among) [
      | inl here ↦ subst (λ (l : Lane S). P l.kinds.items) here (brings zero w.kinds.items u.kinds.items h.0.order)
      | inr there ↦ attached_each P (λ place. rels (suc place)) (λ place. brings (suc place)) ws us h.1 lane there
    ]

    -- there are as many lanes as before
    pub attach_long : (rels : ℕ → List ℕ) (old new : List (Lane S)) → LanesAttach seen schema rels old new → length new ≡ length old
    attach_long rels [] [] h = refl
    attach_long rels [] (u ∷ us) h = absurd h
    attach_long rels (w ∷ ws) [] h = absurd h
    attach_long rels (w ∷ ws) (u ∷ us) h = ap suc (attach_long (λ place. rels (suc place)) ws us h.1)

    -- lanes that attached nothing are as they were
    pub attach_none : (rels : ℕ → List ℕ) → ((place rel : ℕ) → Contains (rels place) rel → ⊥) → (old new : List (Lane S))
        → LanesAttach seen schema rels old new → new ≡ old
    attach_none rels none [] [] h = refl
    attach_none rels none [] (u ∷ us) h = absurd h
    attach_none rels none (w ∷ ws) [] h = absurd h
    attach_none rels none (w ∷ ws) (u ∷ us) h =
        let first : u ≡ w = same (rels zero) (none zero) h.0 in
        let rest : us ≡ ws = attach_none (λ place. rels (suc place)) (λ place. none (suc place)) ws us h.1 in
        λ i. first i ∷ rest i
      where
        same : (list : List ℕ) → ((rel : ℕ) → Contains list rel → ⊥) → AttachesLane seen schema list w u → u ≡ w
        same [] empty a = a.idle refl
        same (x ∷ list) empty a = absurd (empty x (contains_here x list))

    -- no count falls where an attach was refused
    pub break_stay : (rels : ℕ → List ℕ) (rel : ℕ) (why : AttachFault) (old new : List (Lane S)) → length new ≡ length old
        → LanesBreak seen schema rels rel why old new → LanesStay seen old new
    break_stay rels rel why old new long b = zip_places (λ (w u : Lane S). KindsStay seen w.kinds.items u.kinds.items) old new long each
      where
        broken : KindsStay seen b.before.kinds.items b.after.kinds.items
        broken =
            let r = b.refused in
            KindsStay-trans seen b.before.kinds.items r.middle b.after.kinds.items (order_stays seen schema _ b.before.kinds.items r.middle r.attached)
            (one_stays seen schema rel (Err why) r.middle b.after.kinds.items r.refused)

        each : (k : ℕ) (w u : Lane S) → slice_get old k ≡ Some w → slice_get new k ≡ Some u → KindsStay seen w.kinds.items u.kinds.items
        each k w u was now = elim (cases k b.place) [
          | inl less ↦ let h = b.earlier k w u less was now in order_stays seen schema (rels k) w.kinds.items u.kinds.items h.order
          | inr more ↦ elim more [
            | inl same ↦
                let first : b.before ≡ w = some_injective b.before w (sym b.was ∙ ap (slice_get old) (sym same) ∙ was) in
                let last : b.after ≡ u = some_injective b.after u (sym b.now ∙ ap (slice_get new) (sym same) ∙ now) in
                subst (λ (l : Lane S). KindsStay seen l.kinds.items u.kinds.items) first
                (subst (λ (l : Lane S). KindsStay seen b.before.kinds.items l.kinds.items) last broken)
            | inr past ↦
                let same : w ≡ u = some_injective w u (sym was ∙ sym (b.later k past) ∙ now) in
                subst (λ (l : Lane S). KindsStay seen w.kinds.items l.kinds.items) same (KindsStay-refl seen w.kinds.items)
          ]
        ]
          where
            cases : (a b : ℕ) → (a < b) ⊎ ((a ≡ b) ⊎ (b < a))
            cases zero zero = inr (inl refl)
            cases zero (suc b) = inl (omega arith)
            cases (suc a) zero = inr (inr (omega arith))
            cases (suc a) (suc b) = elim (cases a b) [
              | inl less ↦ inl (omega arith)
              | inr more ↦ elim more [
                | inl same ↦ inr (inl (ap suc same))
                | inr past ↦ inr (inr (omega arith))
              ]
            ]
