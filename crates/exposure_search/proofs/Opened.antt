-- The moves of candidates are those that are possible where facts are exposed.
use Rattle.std.proofs.Common.{◌≡◌, ◌↔◌, ◌∙◌, ℕ, List, Bool, true, false, Some, sym, ap, subst}
use Rattle.std.specs.Prelude.{Contains, map, slice_get}
use Rattle.lists.proofs.Members.{contains_got, contains_map, some_injective}
use Rattle.meaning.specs.declared.types.SchemaParts.{SchemaParts}
use Rattle.meaning.specs.declared.types.Ground.{Ground}
use Rattle.meaning.specs.declared.types.Method.{Method}
use Rattle.accessible_copy.specs.Known.{known_values}
use Rattle.accessible_copy.specs.Listing.{AreInputs}
use Rattle.accessible_copy.specs.Proving.{Proving, IsProofOf}
use Rattle.accessible_copy.proofs.Listed.{proof_once, inputs_to, inputs_from}
use Rattle.least_search.specs.declared.space.Move.{Move}
use Rattle.exposure_search.specs.declared.marks.Marks.{Marks}
use Rattle.exposure_search.specs.declared.candidates.Candidate.{Candidate}
use Rattle.exposure_search.specs.Tries.{picked, IsRelevantMove}
use Rattle.exposure_search.specs.Candidates.{AreHeld, IsCandidate, AreCandidates, IsOpenFrom}
use Rattle.exposure_search.specs.Sets.{AreSame, got_once, picked_back}
use Rattle.exposure_search.specs.Spaces.{known_same}

module _ (schema : SchemaParts) (proof : Proving) (is : IsProofOf schema proof) (marks : Marks) (candidates : List Candidate) (are : AreCandidates schema.methods proof.constants proof.end.base marks candidates)
    (set : List Bool) (facts : List Ground) (same : AreSame (picked proof.end.base set) facts) where
  -- the move of a candidate is possible where all that it asks for is held
  pub opened : (candidate : Candidate) → Contains candidates candidate → slice_get set candidate.step.fact ≡ Some false → AreHeld facts candidate.asks.items → IsRelevantMove schema proof.constants proof.end.base marks.relevant.items set candidate.step
  opened candidate among lacks held =
      let base : List Ground = proof.end.base in
      let its : IsCandidate schema.methods proof.constants base marks candidate = are.each candidate among in
      let only : (j : ℕ) → slice_get base j ≡ Some its.fact → j ≡ candidate.step.fact = (λ j there. got_once base its.fact j candidate.step.fact (proof_once schema proof is) there its.at) in (
        (
          record { method = its.exposes.method; fact = its.fact },
          record {
            fact = its.at;
            only = only;
            method = its.exposes.named;
            cost = its.exposes.cost;
            new = lacks;
            exposes = record {
              of_base = contains_got base candidate.step.fact its.fact its.at;
              new = λ c. let (j, at, marked) = picked_back base set its.fact c in
                  let clash : Some true ≡ Some false = sym marked ∙ ap (λ i. slice_get set i) (only j at) ∙ lacks in absurd (cc);
              of_schema = contains_got schema.methods candidate.step.method its.exposes.method its.exposes.named;
              of_relation = its.exposes.of_relation;
              inputs = λ p i. let (v, at, known) = inputs_to proof.constants facts its.exposes.method.inputs its.fact.vals ((its.exposes.asks facts).0 held) p i in
                  (v, at, known_same schema proof.constants base facts (picked base set) v same.from known);
            };
          },
        ),
        its.relevant,
      )

  -- a move that is possible is that of a candidate, and all that it asks for is held
  pub candidate_for : (move : Move) → IsRelevantMove schema proof.constants proof.end.base marks.relevant.items set move → (candidate : Candidate) × Contains candidates candidate × (candidate.step ≡ move) × AreHeld facts candidate.asks.items
  candidate_for move ((e, its), on) =
      let base : List Ground = proof.end.base in
      let inputs : AreInputs (known_values proof.constants facts) e.method.inputs e.fact.vals =
      inputs_from proof.constants facts e.method.inputs e.fact.vals (λ p i. let (v, at, known) = its.exposes.inputs p i in (v, at, known_same schema proof.constants base (picked base set) facts v same.to known)) in
      let (candidate, among, step) = are.all move.fact move.method e.fact e.method facts its.fact on its.method its.exposes.of_relation inputs in
      let each : IsCandidate schema.methods proof.constants base marks candidate = are.each candidate among in
      let same_fact : e.fact ≡ each.fact = some_injective e.fact each.fact (sym its.fact ∙ ap (slice_get base) (sym (ap (λ (m : Move). m.fact) step)) ∙ each.at) in
      let same_method : e.method ≡ each.exposes.method = some_injective e.method each.exposes.method (sym its.method ∙ ap (slice_get schema.methods) (sym (ap (λ (m : Move). m.method) step)) ∙ each.exposes.named) in (
        candidate,
        among,
        step ∙ ap (λ (n : ℕ). record { fact = move.fact; method = move.method; cost = n }) (sym its.cost),
        (each.exposes.asks facts).1 (subst (λ (m : Method). AreInputs (known_values proof.constants facts) m.inputs each.fact.vals) same_method (subst (λ (f : Ground). AreInputs (known_values proof.constants facts) e.method.inputs f.vals) same_fact inputs)),
      )

  pub open_exactly : (move : Move) → IsOpenFrom facts set candidates move ↔ IsRelevantMove schema proof.constants proof.end.base marks.relevant.items set move
  open_exactly move = (
    (λ from. subst (λ (m : Move). IsRelevantMove schema proof.constants proof.end.base marks.relevant.items set m) from.its.step
        (opened from.candidate from.among (ap (λ (m : Move). slice_get set m.fact) from.its.step ∙ from.lacks) from.its.known)),
    (λ can. let (candidate, among, step, known) = candidate_for move can in
        let (e, its) = can.0 in
        record { lacks = its.new; candidate = candidate; among = among; its = record { step = step; known = known } }),
  )

-- each move that is possible at some set is among those of the candidates
pub among_moves : (schema : SchemaParts) (proof : Proving) → IsProofOf schema proof → (marks : Marks) (candidates : List Candidate) → AreCandidates schema.methods proof.constants proof.end.base marks candidates → (set : List Bool) (move : Move) →
    IsRelevantMove schema proof.constants proof.end.base marks.relevant.items set move → Contains (map (λ (candidate : Candidate). candidate.step) candidates) move
among_moves schema proof is marks candidates are set move can =
    let (candidate, among, step, known) = candidate_for schema proof is marks candidates are set (picked proof.end.base set) (record { to = λ f c. c; from = λ f c. c }) move can in
    subst (λ m. Contains (map (λ (c : Candidate). c.step) candidates) m) step (contains_map (λ (c : Candidate). c.step) candidates candidate among)
