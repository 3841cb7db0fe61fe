-- The sets of base facts are a space: walks of moves are exposures in order, also where the moves are fewer.
use Rattle.std.proofs.Common.{◌≡◌, ℕ, ◌+◌, List, [], ◌∷◌, ◌++◌, length, Bool, true, false, Some, refl, sym, ap, ◌∙◌, subst, inl, inr, ⊎_elim, arith, append_assoc}
use Rattle.std.specs.Prelude.{Contains, slice_get, slice_set}
use Rattle.std.proofs.lemmas.List.{append-nil}
use Rattle.std.proofs.lemmas.Option.{get_or_from_slice_get}
use Rattle.meaning.specs.declared.types.SchemaParts.{SchemaParts}
use Rattle.meaning.specs.declared.types.Ground.{Ground}
use Rattle.meaning.specs.declared.types.Val.{Val}
use Rattle.meaning.specs.Runs.{IsKnownValue}
use Rattle.meaning.specs.Extract.{Exposure, exposed_facts, Exposes, IsExposing, exposures_cost}
use Rattle.least_search.specs.declared.space.Move.{Move}
use Rattle.least_search.specs.Walks.{IsWalk, walk_cost, no_facts, with_fact, IsSpace}
use Rattle.exposure_search.specs.Tries.{picked, IsOpen, IsMarked}
use Rattle.exposure_search.specs.Making.{fact_at}
use Rattle.exposure_search.specs.Ahead.{facts_along}
use Rattle.exposure_search.specs.Trials.{IsTrialAlong}
use Rattle.exposure_search.specs.Sets.{AreSame, picked_back, picked_at, same_more, none_same, within_got}
use Rattle.exposure_search.specs.Exploring.{Exploring, space_size, CanExpose, HasTry}

module _ (schema : SchemaParts) (constants : List (List ℕ)) (base : List Ground) where
  pub known_same : (first second : List Ground) (v : Val) → ((f : Ground) → Contains first f → Contains second f) → IsKnownValue constants first v → IsKnownValue constants second v
  known_same first second v within known = ⊎_elim (λ c. inl c) (λ (f, among, i). inr (f, within f among, i)) known

  pub exposes_same : (first second : List Ground) (e : Exposure) → AreSame first second → Exposes schema constants base first e → Exposes schema constants base second e
  exposes_same first second e same is =
      record {
        of_base = is.of_base;
        new = λ c. is.new (same.from e.fact c);
        of_schema = is.of_schema;
        of_relation = is.of_relation;
        inputs = λ p i. let (v, at, known) = is.inputs p i in (v, at, known_same first second v same.to known);
      }

  -- a walk is exposures of its facts in order, at the same cost
  pub walk_exposing : (moves : List Move) (exposed : List Ground) (set end : List Bool) → AreSame (picked base set) exposed → IsWalk (IsOpen schema constants base) set moves end →
      (exposures : List Exposure) × IsExposing schema constants base exposed exposures × (exposures_cost exposures ≡ walk_cost moves) × (exposed_facts exposures ≡ facts_along base moves) × AreSame (picked base end) (exposed ++ exposed_facts exposures)
  walk_exposing [] exposed set end same is = ([], tt, refl, refl, subst (λ gs. AreSame (picked base end) gs) (sym (append-nil exposed)) (subst (λ s. AreSame (picked base s) exposed) (sym is) same))
  walk_exposing (move ∷ moves) exposed set end same ((e, is), walk) =
      let (exposures, exposing, cost, along, ends) = walk_exposing moves (exposed ++ e.fact ∷ []) (slice_set set move.fact true) end (same_more base set exposed move.fact e.fact same is.fact is.new) walk in (
        e ∷ exposures,
        (exposes_same (picked base set) exposed e same is.exposes, exposing),
        (let c : exposures_cost exposures ≡ walk_cost moves = cost in let m : move.cost ≡ e.method.cost = is.cost in omega arith),
        (let here : fact_at base move.fact ≡ e.fact = get_or_from_slice_get base move.fact e.fact (record { rel = 0; vals = [] }) is.fact in
            ap (λ gs. e.fact ∷ gs) along ∙ ap (λ f. f ∷ facts_along base moves) (sym here)),
        subst (λ gs. AreSame (picked base end) gs) (append_assoc exposed (e.fact ∷ []) (exposed_facts exposures)) ends,
      )

  -- exposures and moves are a space
  pub is_space : (next : ℕ) → IsSpace (length base) (IsOpen schema constants base) (IsTrialAlong schema constants (record { facts = base; next = next }))
  is_space next =
      record {
        new = λ set move (e, is). is.new;
        grows = λ set larger move (e, is) within out. (
          e,
          record {
            fact = is.fact;
            only = is.only;
            method = is.method;
            cost = is.cost;
            new = out;
            exposes = record {
              of_base = is.exposes.of_base;
              new = λ c. let (j, at, marked) = picked_back base larger e.fact c in
                  let same : j ≡ move.fact = is.only j at in
                  let clash : Some true ≡ Some false = sym marked ∙ ap (λ i. slice_get larger i) same ∙ out in absurd (cc);
              of_schema = is.exposes.of_schema;
              of_relation = is.exposes.of_relation;
              inputs = λ p i. let (v, at, known) = is.exposes.inputs p i in (v, at, known_same (picked base set) (picked base larger) v (λ f c. let (j, e', marked) = picked_back base set f c in picked_at base larger j f e' (within_got set larger j within marked)) known);
            };
          },
        );
        runs = λ moves end walk.
            let (exposures, exposing, cost, along, ends) = walk_exposing moves [] (no_facts (length base)) end (none_same base) walk in record {
              trial = record { exposures = exposures; copy = [] };
              is = record { end = record { facts = exposed_facts exposures; next = next }; exposing = exposing; copies = refl };
              along = along;
              cost = cost;
              many = refl;
            };
      }

-- a walk by some of the moves is one by all
pub wider_walk : (CanMove CanGo : List Bool → Move → Type 0) → ((set : List Bool) (move : Move) → CanMove set move → CanGo set move) → (moves : List Move) (set end : List Bool) → IsWalk CanMove set moves end → IsWalk CanGo set moves end
wider_walk CanMove CanGo wide [] set end e = e
wider_walk CanMove CanGo wide (move ∷ moves) set end (can, walk) = (wide set move can, wider_walk CanMove CanGo wide moves (with_fact set move) end walk)

-- by moves of marked facts as well
pub open_walk : (space : Exploring) (moves : List Move) (set end : List Bool) → IsWalk (CanExpose space) set moves end → IsWalk (IsOpen space.schema space.constants space.base.facts) set moves end
open_walk space moves set end walk = wider_walk (CanExpose space) (IsOpen space.schema space.constants space.base.facts) (λ s move can. can.0) moves set end walk

-- the moves of marked facts are a space, if all moves are
pub narrowed : (n : ℕ) (CanMove : List Bool → Move → Type 0) (HasRun : List Move → ℕ → Type 0) (marks : List Bool) → IsSpace n CanMove HasRun → IsSpace n (λ set move. CanMove set move × IsMarked marks move.fact) HasRun
narrowed n CanMove HasRun marks is = record {
  new = λ set move can. is.new set move can.0;
  grows = λ set larger move can within out. (is.grows set larger move can.0 within out, can.1);
  runs = λ moves end walk. is.runs moves end (wider_walk (λ set move. CanMove set move × IsMarked marks move.fact) CanMove (λ s move can. can.0) moves (no_facts n) end walk);
}

-- An exposure adds a fact that is not exposed, and is possible in each larger set without its fact; and a walk is a run.
pub explored_is_space : (space : Exploring) → IsSpace (space_size space) (CanExpose space) (HasTry space)
explored_is_space space =
    narrowed (length space.base.facts) (IsOpen space.schema space.constants space.base.facts) (HasTry space) space.marks.relevant.items
    (is_space space.schema space.constants space.base.facts space.base.next)
