-- Moves that stand for active exposures are moves from a set.
use Rattle.std.proofs.Common.{◌≡◌, ◌<◌, ℕ, List, [], ◌∷◌, length, Bool, true, Some, sym, ap, ◌∙◌, subst, inl, inr, ⊎_elim}
use Rattle.std.specs.Prelude.{Contains}
use Rattle.std.proofs.lemmas.Option.{slice_get_within}
use Rattle.lists.proofs.Members.{contains_got, got_below}
use Rattle.meaning.specs.declared.types.SchemaParts.{SchemaParts}
use Rattle.meaning.specs.declared.types.Ground.{Ground}
use Rattle.accessible_copy.specs.Proving.{Proving, IsProofOf}
use Rattle.accessible_copy.specs.Known.{known_values}
use Rattle.accessible_copy.proofs.Listed.{proof_once, known_to, known_from}
use Rattle.least_search.specs.declared.space.Move.{Move}
use Rattle.least_search.specs.Walks.{IsWalk, no_facts}
use Rattle.exposure_search.specs.Tries.{picked, IsOpen, Adds}
use Rattle.exposure_search.specs.Making.{IsActiveMove}
use Rattle.exposure_search.specs.Spaces.{known_same}
use Rattle.least_search.proofs.Sets.{none_length}
use Rattle.least_search.proofs.Cutting.{walk_length}
use Rattle.exposure_search.specs.Sets.{AreSame, got_once, picked_at, truth}

module _ (schema : SchemaParts) (proof : Proving) (is : IsProofOf schema proof) where
  -- what gains something gains it too where no more facts are exposed
  pub adds_same : (first second : List Ground) (needed : List Bool) (number : ℕ) → ((f : Ground) → Contains second f → Contains first f) → Adds (known_values proof.constants first) proof.end.base needed number → Adds (known_values proof.constants second) proof.end.base needed number
  adds_same first second needed number within gains =
      ⊎_elim (λ on. inl on) (λ (fact, v, at, has, new). inr (fact, v, at, has, (λ c. new (known_from proof.constants first v (known_same schema proof.constants proof.end.base second first v within (known_to proof.constants second v c)))))) gains

  -- moves from the set whose facts are exposed
  module _ (path : List Move) (set : List Bool) (walk : IsWalk (IsOpen schema proof.constants proof.end.base) (no_facts (length proof.end.base)) path set) (same : AreSame (picked proof.end.base set) proof.end.exposed) where
    pub active_open : (move : Move) → IsActiveMove schema proof move → IsOpen schema proof.constants proof.end.base set move
    active_open move active =
        let base : List Ground = proof.end.base in
        let (mark, marked) = got_below set move.fact (subst (λ n. move.fact < n) (sym (walk_length (IsOpen schema proof.constants base) (no_facts (length base)) path set walk ∙ none_length (length base))) (slice_get_within base move.fact active.fact active.at)) in (
          record { method = active.of; fact = active.fact },
          record {
            fact = active.at;
            only = λ j there. got_once base active.fact j move.fact (proof_once schema proof is) there active.at;
            method = active.active.named;
            cost = active.cost;
            new = ⊎_elim (λ yes'. absurd (active.active.new (same.to active.fact (picked_at base set move.fact active.fact active.at (marked ∙ ap (λ b. Some b) yes'))))) (λ no'. marked ∙ ap (λ b. Some b) no') (truth mark);
            exposes = record {
              of_base = active.active.of_base;
              new = λ c. active.active.new (same.to active.fact c);
              of_schema = contains_got schema.methods move.method active.of active.active.named;
              of_relation = active.active.of_relation;
              inputs = λ p i. let (v, at, known) = active.active.inputs p i in (v, at, known_same schema proof.constants proof.end.base proof.end.exposed (picked base set) v same.from known);
            };
          },
        )

    pub open_active : (move : Move) → IsOpen schema proof.constants proof.end.base set move → IsActiveMove schema proof move
    open_active move (e, its) = record {
      fact = e.fact;
      of = e.method;
      at = its.fact;
      active = record {
        of_base = its.exposes.of_base;
        new = λ c. its.exposes.new (same.from e.fact c);
        named = its.method;
        of_relation = its.exposes.of_relation;
        inputs = λ p i. let (v, at, known) = its.exposes.inputs p i in (v, at, known_same schema proof.constants proof.end.base (picked proof.end.base set) proof.end.exposed v same.to known);
      };
      cost = its.cost;
    }
