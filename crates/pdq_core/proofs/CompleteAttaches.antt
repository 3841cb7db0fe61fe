-- Attaches are stopped by nothing but a lack of memory, where the sources of each lane serve.
use Rattle.std.proofs.Common.{◌≡◌, ◌≢◌, ◌<◌, ℕ, zero, suc, List, [], ◌∷◌, length, Option, None, Some, Err, refl, ap, subst, inl, inr, arith}
use Rattle.std.specs.Prelude.{Contains, IsSome, slice_get}
use Rattle.lists.proofs.Members.{some_injective, contains_cases, contains_got}
use Rattle.access_schema.specs.declared.schema.Schema.{Schema}
use Rattle.source_trait.specs.Asking.{Seen}
use Rattle.source_trait.specs.declared.source.AttachFault.{AttachFault}
use Rattle.source_trait.specs.declared.source.AttachFault.TheVariants as attach
use Rattle.source_trait.specs.declared.lanes.Kind.{Kind}
use Rattle.source_trait.specs.declared.lanes.Lane.{Lane}
use Rattle.middleware.specs.declared.fault.RunFault.{RunFault}
use Rattle.middleware.specs.PlanSources.{line_for}
use Rattle.middleware.specs.Needs.{IsFirstKindless, AttachBreaksAt, AttachesNeeded}
use Rattle.middleware.specs.Needs.AttachesNeeded.{no_source, unknown_kind, refused, no_memory}
use Rattle.middleware.proofs.Lacking.{rises_strictly}
use Rattle.command_io.specs.declared.stop.Stop.TheVariants as stop
use Rattle.command_io.specs.Executing.{stop_of_run}
use Rattle.pdq_core.specs.Complete.{OnLanes, Serve}
use Rattle.pdq_core.proofs.CompleteSources.{in_first, rises_take, none_refused}

-- what follows on each lane from what holds there
pub on_lanes : {S : Type 0} (P Q : List (Kind S) → List (Kind S) → Type 0) →
    ((before after : List (Kind S)) → P before after → Q before after) → (old new : List (Lane S)) → OnLanes P old new → OnLanes Q old new
on_lanes P Q follows [] [] all = tt
on_lanes P Q follows [] (u ∷ us) all = absurd all
on_lanes P Q follows (w ∷ ws) [] all = absurd all
on_lanes P Q follows (w ∷ ws) (u ∷ us) all = (follows w.kinds.items u.kinds.items all.0, on_lanes P Q follows ws us all.1)

pub none_some : {X : Type 0} (o : Option X) → o ≡ None → IsSome o → ⊥
none_some o none some = cc

module _ {S : Type 0} (P : List (Kind S) → List (Kind S) → Type 0) where
  -- what holds of the lane at a place
  pub at_place : (old new : List (Lane S)) → OnLanes P old new → (place : ℕ) (before after : Lane S) →
      slice_get old place ≡ Some before → slice_get new place ≡ Some after →
      P before.kinds.items after.kinds.items
  at_place [] new all place before after was now = absurd (cc)
  at_place (w ∷ ws) [] all place before after was now = absurd all
  at_place (w ∷ ws) (u ∷ us) all zero before after was now =
      subst (λ (l : Lane S). P l.kinds.items after.kinds.items) (some_injective w before was)
      (subst (λ (l : Lane S). P w.kinds.items l.kinds.items) (some_injective u after now) all.0)
  at_place (w ∷ ws) (u ∷ us) all (suc k) before after was now = at_place ws us all.1 k before after was now

  -- a lane that is at a place was there before
  pub from_place : (old new : List (Lane S)) → OnLanes P old new → (place : ℕ) (after : Lane S) → slice_get new place ≡ Some after →
      (before : Lane S) × (slice_get old place ≡ Some before) × P before.kinds.items after.kinds.items
  from_place [] [] all place after now = absurd (cc)
  from_place [] (u ∷ us) all place after now = absurd all
  from_place (w ∷ ws) [] all place after now = absurd all
  from_place (w ∷ ws) (u ∷ us) all zero after now =
      (w, refl, subst (λ (l : Lane S). P w.kinds.items l.kinds.items) (some_injective u after now) all.0)
  from_place (w ∷ ws) (u ∷ us) all (suc k) after now = from_place ws us all.1 k after now

  -- what became of a lane
  pub from_among : (old new : List (Lane S)) → OnLanes P old new → (before : Lane S) → Contains old before →
      (after : Lane S) × P before.kinds.items after.kinds.items
  from_among [] new all before among = absurd (omega arith)
  from_among (w ∷ ws) [] all before among = absurd all
  from_among (w ∷ ws) (u ∷ us) all before among = elim (contains_cases w ws before among) [
    | inl here ↦ (u, subst (λ (l : Lane S). P l.kinds.items u.kinds.items) here all.0)
    | inr there ↦ from_among ws us all.1 before there
  ]

-- Lanes that serve relations, of which each lane needs the same.
module _ {S : Type 0} (seen : S → Seen) (schema : Schema) (IsNeeded : ℕ → Type 0) where
  abbrev Serves : List (Kind S) → List (Kind S) → Type 0
  Serves = Serve seen schema IsNeeded

  some_line : (old new : List (Lane S)) → 0 < length old → OnLanes Serves old new → (rel : ℕ) → IsNeeded rel →
      IsSome (line_for rel schema.sources)
  some_line [] new some all rel needed = absurd (omega (arith, some))
  some_line (w ∷ ws) [] some all rel needed = absurd all
  some_line (w ∷ ws) (u ∷ us) some all rel needed = all.0.lines rel needed

  module _ (old new : List (Lane S)) (some : (rel : ℕ) → IsNeeded rel → 0 < length old) (serve : OnLanes Serves old new) where
    has_line : (rel : ℕ) → IsNeeded rel → line_for rel schema.sources ≡ None → ⊥
    has_line rel needed none = none_some _ none (some_line old new (some rel needed) serve rel needed)

    has_kind : (rel : ℕ) → IsFirstKindless schema (λ place. IsNeeded) old rel → ⊥
    has_kind rel first = elim first.lacks [
      | inl empty ↦ let there = some rel first.wanted.1 in let none = ap length empty in omega (arith, there, none)
      | inr lack ↦
          let (place, lane, at, needed, none) = lack in
          let (after, serves) = from_among Serves old new serve lane (contains_got old place lane at) in
          none_some _ none (serves.kinds rel first.line needed first.line_is)
    ]

    attach_stop : (rel : ℕ) (why : AttachFault) → AttachBreaksAt seen schema (λ place. IsNeeded) rel why old new → why ≢ attach.NoMemory → ⊥
    attach_stop rel why stops apart =
        let b = stops.breaks in
        let r = b.refused in
        let rels = stops.rels b.place in
        let are = stops.are b.place in
        none_refused seen schema IsNeeded b.before.kinds.items b.after.kinds.items
        (at_place Serves old new serve b.place b.before b.after b.was b.now)
        _ r.middle rel why (rises_take rels r.n rel (rises_strictly rels are.ascends) r.at)
        (λ other among. (are.exactly other).0 (in_first r.n rels other among))
        ((are.exactly rel).0 (contains_got rels r.n rel r.at)) apart r.attached r.refused

    pub attaches_stop : (why : RunFault) → AttachesNeeded seen schema (λ place. IsNeeded) old new (Err why) → stop_of_run why ≡ stop.Memory
    attaches_stop why (no_source rel first same) = absurd (has_line rel first.wanted.1 first.lacks)
    attaches_stop why (unknown_kind rel first same) = absurd (has_kind rel first)
    attaches_stop why (refused rel its breaks have apart) = absurd (attach_stop rel its breaks apart)
    attaches_stop why (no_memory how) = refl
