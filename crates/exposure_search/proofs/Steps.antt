-- Steps along a path: which exposures its moves make.
use Rattle.std.proofs.Common.{◌≡◌, ℕ, zero, suc, ◌+◌, ◌<◌, ◌≤◌, List, [], ◌∷◌, ◌++◌, length, take, Bool, Some, refl, sym, ap, ◌∙◌, subst, arith, append_assoc}
use Rattle.std.specs.Prelude.{Contains, slice_get, slice_index_or}
use Rattle.std.specs.List.{AllZip}
use Rattle.std.proofs.lemmas.List.{append-nil, map-append}
use Rattle.std.proofs.lemmas.Option.{slice_get_within, get_or_from_slice_get}
use Rattle.lists.proofs.Members.{some_injective}
use Rattle.lists.proofs.Places.{take_got}
use Rattle.meaning.specs.declared.types.SchemaParts.{SchemaParts}
use Rattle.meaning.specs.declared.types.Method.{Method}
use Rattle.meaning.specs.declared.types.Ground.{Ground}
use Rattle.meaning.specs.Triggers.{State}
use Rattle.meaning.specs.Runs.{IsActiveExposure}
use Rattle.meaning.specs.Extract.{Exposure, exposed_facts, Exposes, IsExposing, exposures_cost}
use Rattle.accessible_copy.specs.declared.entry.Exposed.{Exposed}
use Rattle.accessible_copy.specs.Known.{facts_of}
use Rattle.accessible_copy.specs.Proving.{Proving, IsProofOf}
use Rattle.accessible_copy.specs.Exposing.{with_exposure}
use Rattle.least_search.specs.declared.space.Move.{Move}
use Rattle.least_search.specs.Walks.{IsWalk, walk_cost, no_facts, with_fact}
use Rattle.exposure_search.specs.Tries.{picked, IsOpen}
use Rattle.exposure_search.specs.Making.{OnlyExposes, SameBase, fact_at, made_by, all_made, IsExposedBy}
use Rattle.exposure_search.specs.Sets.{AreSame, same_more, none_same}
use Rattle.exposure_search.specs.Spaces.{exposes_same}
use Rattle.exposure_search.proofs.Logs.{lies, goes_exposed, same_on}

-- one more move that made the next exposure
pub front_more : (base : List Ground) (exposed : List Exposed) (path : List Move) (n : ℕ) (move : Move) → take n exposed ≡ all_made base (take n path) → slice_get exposed n ≡ Some (made_by base move) → slice_get path n ≡ Some move →
    (n + 1 ≤ length exposed) × (take (n + 1) exposed ≡ all_made base (take (n + 1) path))
front_more base exposed path n move so_far there at = (
  (let within : n < length exposed = slice_get_within exposed n (made_by base move) there in omega arith),
  take_got exposed n (made_by base move) there ∙ ap (λ l. l ++ made_by base move ∷ []) so_far ∙ sym (map-append (made_by base) (take n path) (move ∷ [])) ∙ ap (all_made base) (sym (take_got path n move at)),
)

-- a list at one of its elements
pub parted : {X : Type 0} (xs : List X) (n : ℕ) (x : X) → slice_get xs n ≡ Some x → (rest : List X) × (xs ≡ take n xs ++ x ∷ rest)
parted [] n x e = absurd (cc)
parted (y ∷ xs) zero x e = (xs, ap (λ z. z ∷ xs) (some_injective y x e))
parted (y ∷ xs) (suc n) x e = let (rest, same) = parted xs n x e in (rest, ap (λ z. y ∷ z) same)

module _ (schema : SchemaParts) (constants : List (List ℕ)) (base : List Ground) where
  -- what the next move of a walk exposes
  pub walk_open : (front : List Move) (move : Move) (rest : List Move) (set end : List Bool) (exposed : List Ground) → AreSame (picked base set) exposed → IsWalk (IsOpen schema constants base) set (front ++ move ∷ rest) end →
      (e : Exposure) × Exposes schema constants base (exposed ++ facts_of (all_made base front)) e × (slice_get base move.fact ≡ Some e.fact) × (slice_get schema.methods move.method ≡ Some e.method)
  walk_open [] move rest set end exposed same ((e, is), walk) =
      (e, subst (λ gs. Exposes schema constants base gs e) (sym (append-nil exposed)) (exposes_same schema constants base (picked base set) exposed e same is.exposes), is.fact, is.method)
  walk_open (first ∷ front) move rest set end exposed same ((e, is), walk) =
      let (next, exposes, at, named) = walk_open front move rest (with_fact set first) end (exposed ++ e.fact ∷ []) (same_more base set exposed first.fact e.fact same is.fact is.new) walk in
      let here : e.fact ≡ fact_at base first.fact = sym (get_or_from_slice_get base first.fact e.fact (record { rel = 0; vals = [] }) is.fact) in
      (next, subst (λ gs. Exposes schema constants base gs next) (append_assoc exposed (e.fact ∷ []) (facts_of (all_made base front)) ∙ ap (λ f. exposed ++ f ∷ facts_of (all_made base front)) here) exposes, at, named)

  -- the exposures of a walk, in order and at its cost
  pub record IsWalked (path : List Move) (set end : List Bool) (exposed : List Ground) : Type 0 where
    pub made : List Exposure
    pub exposing : IsExposing schema constants base exposed made
    pub cost : exposures_cost made ≡ walk_cost path
    pub many : length made ≡ length path
    pub shown : AllZip (IsExposedBy schema) (all_made base path) made
    pub facts : facts_of (all_made base path) ≡ exposed_facts made
    pub same : AreSame (picked base end) (exposed ++ exposed_facts made)

  pub walked : (path : List Move) (set end : List Bool) (exposed : List Ground) → AreSame (picked base set) exposed → IsWalk (IsOpen schema constants base) set path end → IsWalked path set end exposed
  walked [] set end exposed same is = record {
    made = [];
    exposing = tt;
    cost = refl;
    many = refl;
    shown = tt;
    facts = refl;
    same = subst (λ gs. AreSame (picked base end) gs) (sym (append-nil exposed)) (subst (λ s. AreSame (picked base s) exposed) (sym is) same);
  }
  walked (move ∷ path) set end exposed same ((e, is), walk) =
      let rest = walked path (with_fact set move) end (exposed ++ e.fact ∷ []) (same_more base set exposed move.fact e.fact same is.fact is.new) walk in
      let here : fact_at base move.fact ≡ e.fact = get_or_from_slice_get base move.fact e.fact (record { rel = 0; vals = [] }) is.fact in
      record {
        made = e ∷ rest.made;
        exposing = (exposes_same schema constants base (picked base set) exposed e same is.exposes, rest.exposing);
        cost = let c : exposures_cost rest.made ≡ walk_cost path = rest.cost in let m : move.cost ≡ e.method.cost = is.cost in omega arith;
        many = ap suc rest.many;
        shown = ((is.method, here), rest.shown);
        facts = ap (λ f. f ∷ facts_of (all_made base path)) here ∙ ap (λ gs. e.fact ∷ gs) rest.facts;
        same = subst (λ gs. AreSame (picked base end) gs) (append_assoc exposed (e.fact ∷ []) (exposed_facts rest.made)) rest.same;
      }

-- the next move of a path is active where the exposures are those of the moves before it
pub step_active : (schema : SchemaParts) (proof : Proving) (base : List Ground) (path : List Move) (set : List Bool) (n : ℕ) (move : Move) → OnlyExposes schema proof → proof.end.base ≡ base → proof.exposed ≡ all_made base (take n path) →
    IsWalk (IsOpen schema proof.constants base) (no_facts (length base)) path set → slice_get path n ≡ Some move →
    (of : Method) × IsActiveExposure schema proof.constants proof.end move.method (fact_at base move.fact) of × (move.fact < length base)
step_active schema proof base path set n move is same exposed walk at =
    let (rest, parts) = parted path n move at in
    let (e, exposes, there, named) = walk_open schema proof.constants base (take n path) move rest (no_facts (length base)) set [] (none_same base) (subst (λ p. IsWalk (IsOpen schema proof.constants base) (no_facts (length base)) p set) parts walk) in
    let here : e.fact ≡ fact_at base move.fact = sym (get_or_from_slice_get base move.fact e.fact (record { rel = 0; vals = [] }) there) in
    let its = lies schema proof is in
    let shown : facts_of (all_made base (take n path)) ≡ proof.end.exposed = ap facts_of (sym exposed) ∙ sym its.exposed in
    let now : Exposes schema proof.constants base proof.end.exposed e = subst (λ gs. Exposes schema proof.constants base gs e) shown exposes in (
      e.method,
      subst (λ f. IsActiveExposure schema proof.constants proof.end move.method f e.method) here (record {
        of_base = subst (λ gs. Contains gs e.fact) (sym same) now.of_base;
        new = now.new;
        named = named;
        of_relation = now.of_relation;
        inputs = now.inputs;
      }),
      slice_get_within base move.fact e.fact there,
    )

-- the same walk
pub walk_same : (schema : SchemaParts) (old new : Proving) (path : List Move) (set : List Bool) → SameBase old new → IsWalk (IsOpen schema old.constants old.end.base) (no_facts (length old.end.base)) path set → IsWalk (IsOpen schema new.constants new.end.base) (no_facts (length new.end.base)) path set
walk_same schema old new path set same walk =
    subst (λ c. IsWalk (IsOpen schema c new.end.base) (no_facts (length new.end.base)) path set) (sym same.constants)
    (subst (λ b. IsWalk (IsOpen schema old.constants b) (no_facts (length b)) path set) (sym (ap (λ (s : State). s.facts) same.base)) walk)

-- the next move of a path whose first moves made the exposures of a later proof
module _ (schema : SchemaParts) (old now : Proving) (facts : List Ground) (path : List Move) (n : ℕ) (step : Move) (facts_are : facts ≡ old.end.base) (at : slice_get path n ≡ Some step)
    (is : OnlyExposes schema now) (same : SameBase old now) (made : now.exposed ≡ all_made old.end.base (take n path)) where
  base_is : now.end.base ≡ old.end.base
  base_is = ap (λ (s : State). s.facts) same.base

  pub path_active : (set : List Bool) → IsWalk (IsOpen schema old.constants old.end.base) (no_facts (length old.end.base)) path set → (of : Method) × IsActiveExposure schema now.constants now.end step.method (fact_at facts step.fact) of × (step.fact < length facts)
  path_active set walk =
      let (of, active, low) = step_active schema now now.end.base path set n step is refl (made ∙ ap (λ b. all_made b (take n path)) (sym base_is)) (walk_same schema old now path set same walk) at in
      let facts_now : now.end.base ≡ facts = base_is ∙ sym facts_are in
      (of, subst (λ b. IsActiveExposure schema now.constants now.end step.method (fact_at b step.fact) of) facts_now active, subst (λ b. step.fact < length b) facts_now low)

  pub path_next : (new : Proving) (fact : Ground) → fact ≡ fact_at facts step.fact → IsProofOf schema new → new ≡ with_exposure now step.method fact → OnlyExposes schema new × SameBase old new × (new.exposed ≡ all_made old.end.base (take (n + 1) path))
  path_next new fact here its e =
      let (exposes, on, more) = goes_exposed schema now new step.method fact is its e in
      let there : fact ≡ fact_at old.end.base step.fact = here ∙ ap (λ b. fact_at b step.fact) facts_are in (
        exposes,
        same_on old now new same on,
        more ∙ ap (λ l. l ++ record { method = step.method; fact = fact } ∷ []) made
            ∙ ap (λ f. all_made old.end.base (take n path) ++ record { method = step.method; fact = f } ∷ []) there
            ∙ sym (map-append (made_by old.end.base) (take n path) (step ∷ []))
            ∙ ap (all_made old.end.base) (sym (take_got path n step at)),
      )
