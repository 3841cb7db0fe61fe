-- What is seen of a set before its facts are exposed.
use Rattle.std.proofs.Common.{◌≡◌, ◌↔◌, ℕ, ◌^◌, ◌<◌, ◌≤◌, List, [], length, Bool, refl, sym, ap, ◌∙◌, subst, inl, inr, ⊎_elim, arith}
use Rattle.std.specs.Prelude.{Contains, slice_get}
use Rattle.lists.proofs.Members.{contains_got, some_injective}
use Rattle.meaning_laws.specs.Trims.{AreIn}
use Rattle.meaning_laws.specs.Rests.{HasGoalOver, MakersAreMet}
use Rattle.meaning_laws.proofs.Resting.{goal_stays, goal_lies}
use Rattle.meaning.specs.declared.types.SchemaParts.{SchemaParts}
use Rattle.meaning.specs.declared.types.Ground.{Ground}
use Rattle.meaning.specs.declared.types.Query.{Query}
use Rattle.meaning.specs.declared.types.Val.{Val}
use Rattle.meaning.specs.Triggers.{ground}
use Rattle.rule_pass.specs.Levels.{AreShort}
use Rattle.accessible_copy.specs.Proving.{Proving, IsProofOf}
use Rattle.least_search.specs.declared.space.Move.{Move}
use Rattle.least_search.specs.declared.space.End.TheVariants as end
use Rattle.least_search.specs.Walks.{IsWalk, no_facts}
use Rattle.exposure_search.specs.declared.marks.Marks.{Marks}
use Rattle.exposure_search.specs.declared.candidates.Candidate.{Candidate}
use Rattle.exposure_search.specs.Tries.{picked, IsOpen, IsMarked, IsRelevantMove}
use Rattle.exposure_search.specs.Making.{CannotMake, IsServed}
use Rattle.exposure_search.specs.Ahead.{facts_along, CannotMatch}
use Rattle.exposure_search.specs.Candidates.{IsCandidate, AreCandidates, CanBeMade, AreMovesFrom, IsOpenFrom}
use Rattle.exposure_search.specs.Relevance.{AreRelevant, IsWanted}
use Rattle.exposure_search.specs.Exploring.{exploring_of, most_labels, CanExpose, GainsAt, HasGoalAt}
use Rattle.exposure_search.specs.Aims.{AreNamedFor}
use Rattle.exposure_search.specs.Visiting.{IsVisitEnd, AreMovesAt}
use Rattle.exposure_search.specs.Sets.{AreSame, none_same, picked_back}
use Rattle.exposure_search.specs.Spaces.{is_space}
use Rattle.exposure_search.proofs.Still.{makers_still}
use Rattle.exposure_search.proofs.Serving.{adds_same}
use Rattle.exposure_search.proofs.Opened.{opened, candidate_for, open_exactly}
use Rattle.exposure_search.proofs.Steps.{walked}

-- ---- a set whose facts have no goal, as no rule that counts can fire and there is no match, or as has been seen of the path's facts

module _ (schema : SchemaParts) (proof : Proving) (path : List Move) (set : List Bool) (walk : IsWalk (IsOpen schema proof.constants proof.end.base) (no_facts (length proof.end.base)) path set) where
  -- the facts of the set are those of the path
  pub along_same : AreSame (picked proof.end.base set) (facts_along proof.end.base path)
  along_same =
      let its = walked schema proof.constants proof.end.base path (no_facts (length proof.end.base)) set [] (none_same proof.end.base) walk in
      subst (λ gs. AreSame (picked proof.end.base set) gs) (sym its.facts) its.same

  -- which are base facts
  pub along_base : AreIn (facts_along proof.end.base path) proof.end.base
  along_base fact among =
      let (k, at, marked) = picked_back proof.end.base set fact (along_same.from fact among) in
      contains_got proof.end.base k fact at

  -- the moves that are possible are those of candidates
  pub open_along : IsProofOf schema proof → (marks : Marks) (candidates : List Candidate) → AreCandidates schema.methods proof.constants proof.end.base marks candidates → (move : Move) →
      IsOpenFrom (facts_along proof.end.base path) set candidates move ↔ IsRelevantMove schema proof.constants proof.end.base marks.relevant.items set move
  open_along is marks candidates are move = open_exactly schema proof is marks candidates are set (facts_along proof.end.base path) along_same move

  module _ (queries : List Query) (head : List Val) (budget : ℕ) (marks : Marks) where
    -- a goal would be a match of the path's facts, which lack one
    pub none_bare : AreNamedFor schema proof.constants proof.end.base proof.end.next queries head →
        proof.end.next ≤ 2 ^ 32 → AreShort schema.rules →
        AreRelevant schema proof.constants proof.end.base proof.end.next queries head marks →
        CannotMake schema.rules marks.makers.items (facts_along proof.end.base path) →
        CannotMatch queries (facts_along proof.end.base path) →
        HasGoalAt (exploring_of schema proof queries head budget marks) set → ⊥
    none_bare named few short relevant cannot unmatched has =
        let facts : List Ground = facts_along proof.end.base path in
        let Wants : Ground → Type 0 = IsWanted queries head relevant.wanted in
        let met : MakersAreMet schema.rules proof.end.next Wants facts =
        makers_still schema.rules proof.end.next Wants marks.makers.items relevant.makers facts cannot in
        let (goal, among, (a, are, e)) =
        goal_lies schema proof.constants queries head proof.end.next (most_labels schema.rules) (length schema.rules)
        Wants (picked proof.end.base set) (record { facts = facts; next = proof.end.next }) named.rules short
        relevant.closed.bodies met (λ f v c i. named.facts f v (along_base f c) i)
        (λ f c. named.fits f (along_base f c)) (omega arith) (omega arith) along_same.to relevant.closed.images has in
        let (atom, of_goal, missing) = unmatched goal among in
        missing (ground a atom) (are atom of_goal) refl

    -- where the facts of the path have no goal, the set has none
    pub none_along :
        (HasGoalOver schema proof.constants queries head proof.end.next (most_labels schema.rules)
        (facts_along proof.end.base path) → ⊥) →
        HasGoalAt (exploring_of schema proof queries head budget marks) set → ⊥
    none_along none has =
        none (goal_stays schema proof.constants queries head proof.end.next (most_labels schema.rules)
        (most_labels schema.rules) (picked proof.end.base set) (facts_along proof.end.base path) (omega arith)
        along_same.to has)

    pub bare_end : (HasGoalAt (exploring_of schema proof queries head budget marks) set → ⊥) →
        IsVisitEnd (exploring_of schema proof queries head budget marks) path set end.NoGoal 0
    bare_end none =
        record {
          goal = λ e. absurd (cc);
          none = λ e has. none has;
          long = λ e. absurd (cc);
          due = λ e. absurd (cc);
          run = (is_space schema proof.constants proof.end.base proof.end.next).runs path set walk;
        }

    -- the moves of the candidates that can be made
    pub bare_moves : IsProofOf schema proof → (candidates : List Candidate) (below : ℕ) (moves : List Move) → AreCandidates schema.methods proof.constants proof.end.base marks candidates → AreMovesFrom (facts_along proof.end.base path) set below candidates moves →
        AreMovesAt (exploring_of schema proof queries head budget marks) set end.NoGoal below moves
    bare_moves is candidates below moves are from = record {
      possible = λ move among. let (candidate, c, its, made) = from.possible move among in
          subst (λ (m : Move). CanExpose (exploring_of schema proof queries head budget marks) set m) its (opened schema proof is marks candidates are set facts along_same candidate c made.lacks made.known);
      complete = λ goes move can gains low. completed move can gains low;
    }
      where
        facts : List Ground
        facts = facts_along proof.end.base path

        -- where a move is possible and gains something, a candidate with it can be made
        completed : (move : Move) → CanExpose (exploring_of schema proof queries head budget marks) set move → GainsAt (exploring_of schema proof queries head budget marks) set move → move.cost < below → IsServed moves move
        completed move can gains low =
            let base : List Ground = proof.end.base in
            let (candidate, among, step, known) = candidate_for schema proof is marks candidates are set facts along_same move can in
            let (e, its) = can.0 in
            let each : IsCandidate schema.methods proof.constants base marks candidate = are.each candidate among in
            let here : candidate.step.fact ≡ move.fact = ap (λ (m : Move). m.fact) step in
            let cost : candidate.step.cost ≡ move.cost = ap (λ (m : Move). m.cost) step in
            let made : CanBeMade facts set below candidate = record {
              low = omega arith;
              lacks = ap (slice_get set) here ∙ its.new;
              known = known;
              gains = ⊎_elim (λ need. inl (each.needed.1 (subst (λ n. IsMarked marks.needed.items n) (sym here) need)))
                  (λ (fact, v, at, has, new). inr (λ held. new ((each.exposes.brings facts).0 held v (subst (λ (f : Ground). Contains f.vals v) (some_injective fact each.fact (sym at ∙ ap (slice_get base) (sym here) ∙ each.at)) has))))
                  (adds_same schema proof is (picked base set) facts marks.needed.items move.fact along_same.from gains);
            } in
            let (other, c, same, cheap) = from.served candidate among made in (other, c, same ∙ here, omega arith)
