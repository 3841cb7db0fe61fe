-- Sources that serve refuse no attach and fail no request.
use Rattle.std.proofs.Common.{◌≡◌, ◌≢◌, ◌<◌, ℕ, zero, suc, List, [], ◌∷◌, ◌++◌, take, Option, None, Some, Result, Err, refl, subst, inl, inr, arith}
use Rattle.std.specs.Prelude.{Contains, IfSome, IsOk, MatchOption, slice_get}
use Rattle.std.specs.List.{AllByRecursion}
use Rattle.lists.proofs.Members.{some_injective, contains_here, contains_there, contains_cases}
use Rattle.access_schema.specs.declared.schema.Schema.{Schema}
use Rattle.access_schema.specs.declared.schema.SourceLine.{SourceLine}
use Rattle.source_trait.specs.Asking.{RowList, Rises, Seen, AttachGives, AttachCause, offered_now}
use Rattle.source_trait.specs.Causes.{Rose}
use Rattle.source_trait.specs.Lanes.{source_of, KindsStay}
use Rattle.source_trait.specs.declared.source.AttachFault.{AttachFault}
use Rattle.source_trait.specs.declared.source.AttachFault.TheVariants as attach
use Rattle.source_trait.specs.declared.lanes.Kind.{Kind}
use Rattle.source_trait.proofs.LaneSteps.{StepsOn-source}
use Rattle.middleware.specs.PlanSources.{line_for}
use Rattle.middleware.specs.Attaching.{AttachesOne, AttachesInOrder}
use Rattle.middleware.proofs.Attached.{order_stays}
use Rattle.middleware.proofs.LaneRuns.{earlier_source}
use Rattle.command_io.proofs.Later.{rose_between}
use Rattle.pdq_core.specs.Complete.{Serve}

-- what is in a first part of a list is in the list
pub in_first : (n : ℕ) (xs : List ℕ) (x : ℕ) → Contains (take n xs) x → Contains xs x
in_first zero xs x c = absurd (omega arith)
in_first (suc n) [] x c = c
in_first (suc n) (y ∷ ys) x c = elim (contains_cases y (take n ys) x c) [
  | inl same ↦ subst (λ (z : ℕ). Contains (y ∷ ys) z) same (contains_here y ys)
  | inr more ↦ contains_there y ys x (in_first n ys x more)
]

-- ---- ascending relations

all_push : (P : ℕ → Type 0) (xs : List ℕ) (y : ℕ) → AllByRecursion P xs → P y → AllByRecursion P (xs ++ y ∷ [])
all_push P [] y all one = (one, tt)
all_push P (x ∷ xs) y all one = (all.0, all_push P xs y all.1 one)

-- a number above them behind ascending numbers
pub rises_push : (xs : List ℕ) (y : ℕ) → Rises xs → ((x : ℕ) → Contains xs x → x < y) → Rises (xs ++ y ∷ [])
rises_push [] y up below = (tt, tt)
rises_push (x ∷ xs) y up below =
    (all_push (λ q. x < q) xs y up.0 (below x (contains_here x xs)), rises_push xs y up.1 (λ z among. below z (contains_there x xs z among)))

all_take : (P : ℕ → Type 0) (xs : List ℕ) (n y : ℕ) → AllByRecursion P xs → slice_get xs n ≡ Some y → AllByRecursion P (take n xs ++ y ∷ [])
all_take P [] n y all at = absurd (cc)
all_take P (x ∷ xs) zero y all at = (subst P (some_injective x y at) all.0, tt)
all_take P (x ∷ xs) (suc n) y all at = (all.0, all_take P xs n y all.1 at)

-- the first of ascending numbers, up to one of them
pub rises_take : (xs : List ℕ) (n y : ℕ) → Rises xs → slice_get xs n ≡ Some y → Rises (take n xs ++ y ∷ [])
rises_take [] n y up at = absurd (cc)
rises_take (x ∷ xs) zero y up at = (tt, tt)
rises_take (x ∷ xs) (suc n) y up at = (all_take (λ q. x < q) xs n y up.0 at, rises_take xs n y up.1 at)

-- ---- what is a cause

told_fault : (fault : AttachFault) (offer : Option (Result RowList AttachFault)) (rose : Type 0) → IfSome offer IsOk → MatchOption offer rose (λ o. o ≡ Err fault) → rose
told_fault fault None rose fine cause = cause
told_fault fault (Some o) rose fine cause = absurd (cc)

-- where rows are offered, only a count that rose is a cause to refuse them, but for lack of memory
refused_for : (fault : AttachFault) (offer : Option (Result RowList AttachFault)) (rose : Type 0) → fault ≢ attach.NoMemory → IfSome offer IsOk → AttachCause fault offer rose → rose
refused_for attach.NoMemory offer rose apart fine cause = absurd (apart refl)
refused_for attach.Failed offer rose apart fine cause = cause
refused_for attach.Missing offer rose apart fine cause = told_fault attach.Missing offer rose fine cause
refused_for (attach.BadHeader column) offer rose apart fine cause = told_fault (attach.BadHeader column) offer rose fine cause
refused_for (attach.BadRow number) offer rose apart fine cause = told_fault (attach.BadRow number) offer rose fine cause
refused_for (attach.NotUtf8 number) offer rose apart fine cause = told_fault (attach.NotUtf8 number) offer rose fine cause
refused_for attach.TooLarge offer rose apart fine cause = told_fault attach.TooLarge offer rose fine cause

module _ {S : Type 0} (seen : S → Seen) where
  module _ (schema : Schema) (IsNeeded : ℕ → Type 0) (old new : List (Kind S)) (serve : Serve seen schema IsNeeded old new) where
    -- no count of a source that is needed rose since the kinds began to stay
    pub none_rose : (middle : List (Kind S)) (rel : ℕ) (line : SourceLine) (before after : S) → IsNeeded rel → line_for rel schema.sources ≡ Some line → KindsStay seen old middle →
        source_of middle line.kind ≡ Some before → source_of new line.kind ≡ Some after → Rose (seen before).faults (seen after).faults → ⊥
    none_rose middle rel line before after needed line_is stay was now rose =
        let (first, began, goes) = earlier_source seen old middle line.kind before stay was in
        serve.faults rel line needed line_is first after began now (rose_between (seen first).faults (seen before).faults (seen after).faults (seen after).faults goes.later (omega arith) rose)

    -- no attach of a relation that is needed is refused
    pub none_refused : (rels : List ℕ) (middle : List (Kind S)) (rel : ℕ) (fault : AttachFault) → Rises (rels ++ rel ∷ []) → ((other : ℕ) → Contains rels other → IsNeeded other) → IsNeeded rel →
        fault ≢ attach.NoMemory → AttachesInOrder seen schema rels old middle → AttachesOne seen schema rel (Err fault) middle new → ⊥
    none_refused rels middle rel fault up are needed apart order one =
        let moved = StepsOn-source middle new (λ s t. AttachGives (seen s) (seen t) rel one.relation.columns one.line.locator (Err fault)) one.line.kind one.steps in
        let fine : IfSome (offered_now (seen moved.before) rel one.relation.columns one.line.locator) IsOk =
        serve.offers rels rel middle up are needed order one.relation one.line moved.before one.relation_is one.line_is moved.was in
        let gives : AttachGives (seen moved.before) (seen moved.after) rel one.relation.columns one.line.locator (Err fault) = moved.steps in
        none_rose middle rel one.line moved.before moved.after needed one.line_is (order_stays seen schema rels old middle order) moved.was moved.now
        (refused_for fault (offered_now (seen moved.before) rel one.relation.columns one.line.locator) (Rose (seen moved.before).faults (seen moved.after).faults) apart fine gives.cause)
