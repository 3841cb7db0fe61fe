-- Visits, said of the proof before them.
use Rattle.std.proofs.Common.{◌≡◌, ◌⊎◌, inl, inr, ⊎_elim, ℕ, ◌+◌, ◌^◌, ◌<◌, ◌≤◌, List, length, take, true, false, ap, ◌∙◌, subst, sym, Bool}
use Rattle.std.specs.Prelude.{Contains, IfOk, Result, Ok, Err}
use Rattle.meaning.specs.declared.types.SchemaParts.{SchemaParts}
use Rattle.meaning.specs.declared.types.Ground.{Ground}
use Rattle.meaning.specs.declared.types.Query.{Query}
use Rattle.meaning.specs.declared.types.Val.{Val}
use Rattle.meaning.specs.Triggers.{IsQuiet, State}
use Rattle.meaning.specs.Runs.{copy_state, HasGoal}
use Rattle.rule_pass.specs.Levels.{AreShort}
use Rattle.rule_pass.specs.States.{SomeActive}
use Rattle.accessible_copy.specs.declared.settling.Round.{Round}
use Rattle.accessible_copy.specs.declared.settling.Round.TheVariants.{Quiet, Done, Spent}
use Rattle.accessible_copy.specs.Known.{known_values, facts_of}
use Rattle.accessible_copy.specs.Proving.{Proving, IsProofOf}
use Rattle.accessible_copy.specs.Settling.{Settles}
use Rattle.least_search.specs.declared.space.Move.{Move}
use Rattle.least_search.specs.declared.space.End.{End}
use Rattle.least_search.specs.declared.space.End.TheVariants as end
use Rattle.least_search.specs.Walks.{IsWalk, no_facts}
use Rattle.least_search.specs.Ends.{GoesOn}
use Rattle.exposure_search.specs.declared.marks.Marks.{Marks}
use Rattle.exposure_search.specs.Tries.{IsOpen, IsMarked, Adds}
use Rattle.exposure_search.specs.Making.{OnlyExposes, SameBase, GoesBeyond, all_made, IsActiveMove, IsServed, IsStill, CannotMake}
use Rattle.exposure_search.specs.Ahead.{facts_along}
use Rattle.exposure_search.specs.Relevance.{AreRelevant}
use Rattle.exposure_search.specs.Exploring.{exploring_of, HasGoalAt, HasRunBeyond}
use Rattle.exposure_search.specs.Visiting.{IsVisitEnd, AreMovesAt, IsReached}
use Rattle.exposure_search.specs.Aims.{AreNamedFor}
use Rattle.exposure_search.proofs.Logs.{lies, goes_back, same_on}
use Rattle.exposure_search.proofs.Steps.{walk_same}
use Rattle.exposure_search.proofs.Settled.{unsettled, runs_beyond, same_space, made_same, moves_here, visit_end, reached_here, none_reached}

relevant_same : (schema : SchemaParts) (queries : List Query) (head : List Val) (marks : Marks) (old new : Proving) → SameBase old new → AreRelevant schema old.constants old.end.base old.end.next queries head marks → AreRelevant schema new.constants new.end.base new.end.next queries head marks
relevant_same schema queries head marks old new same relevant =
    subst (λ (s : State). AreRelevant schema new.constants s.facts s.next queries head marks) (sym same.base)
    (subst (λ k. AreRelevant schema k old.end.base old.end.next queries head marks) (sym same.constants) relevant)

named_same : (schema : SchemaParts) (queries : List Query) (head : List Val) (old new : Proving) → SameBase old new → AreNamedFor schema old.constants old.end.base old.end.next queries head →
    AreNamedFor schema new.constants new.end.base new.end.next queries head
named_same schema queries head old new same named =
    subst (λ (s : State). AreNamedFor schema new.constants s.facts s.next queries head) (sym same.base)
    (subst (λ k. AreNamedFor schema k old.end.base old.end.next queries head) (sym same.constants) named)

module _ (schema : SchemaParts) (queries : List Query) (head : List Val) (budget : ℕ) (marks : Marks) (old gone : Proving) (path : List Move) (set : List Bool)
    (is : OnlyExposes schema gone) (same : SameBase old gone) (made : gone.exposed ≡ all_made old.end.base path)
    (walk : IsWalk (IsOpen schema old.constants old.end.base) (no_facts (length old.end.base)) path set) where
  -- the moves that were listed
  pub moves_seen : (ended : End) (below : ℕ) (moves : List Move) → ((move : Move) → Contains moves move → IsActiveMove schema gone move × IsMarked marks.relevant.items move.fact) → (GoesOn ended → (move : Move) → IsActiveMove schema gone move → IsMarked marks.relevant.items move.fact → Adds (known_values gone.constants gone.end.exposed) gone.end.base marks.needed.items move.fact → move.cost < below → IsServed moves move) →
      AreMovesAt (exploring_of schema old queries head budget marks) set ended below moves
  moves_seen ended below moves active all =
      subst (λ s. AreMovesAt s set ended below moves) (same_space schema queries head budget marks old gone same)
      (moves_here schema gone path set is (made_same old gone path same made) (walk_same schema old gone path set same walk) queries head budget marks ended below moves active all)

  -- where the log is too long already, some run is
  pub path_beyond : budget < length gone.entries → HasRunBeyond (exploring_of schema old queries head budget marks)
  path_beyond more =
      subst (λ s. HasRunBeyond s) (same_space schema queries head budget marks old gone same)
      (runs_beyond schema queries head budget marks gone gone path set is is.run (unsettled schema gone) (made_same old gone path same made) (walk_same schema old gone path set same walk) (inl more))

  module _ (settled : Proving) (its : IsProofOf schema settled) (settles : Settles schema true gone settled) where
    -- where nothing was tried, the copy has the facts of the path
    pub still_seen : (facts : List Ground) → facts ≡ old.end.base → (fires : Bool) → (fires ≡ false → CannotMake schema.rules marks.makers.items (facts_along facts path)) → IsQuiet schema.rules (copy_state settled.end) ⊎ ((fires ≡ false) × (settled ≡ gone)) →
        IsStill schema.rules marks.makers.items (copy_state settled.end)
    still_seen facts facts_are fires cannot seen = ⊎_elim (λ quiet. inl quiet)
        (λ (off, unchanged).
        let copy : settled.end.copy ≡ facts_along facts path = ap (λ (p : Proving). p.end.copy) unchanged ∙ (lies schema gone is).copy ∙ ap facts_of made ∙ ap (λ base. facts_along base path) (sym facts_are) in
        inr (subst (λ gs. CannotMake schema.rules marks.makers.items gs) (sym copy) (cannot off))) seen

    -- how it ended
    pub end_seen : AreNamedFor schema old.constants old.end.base old.end.next queries head → AreShort schema.rules → AreRelevant schema old.constants old.end.base old.end.next queries head marks → (ended : End) (fired : ℕ) → (ended ≡ end.Goal → HasGoal queries settled.end head) → (ended ≡ end.NoGoal → IsStill schema.rules marks.makers.items (copy_state settled.end)) → (ended ≡ end.NoGoal → HasGoal queries settled.end head → ⊥) → (ended ≡ end.NoGoal → settled.end.next ≤ 2 ^ 32) →
        (ended ≡ end.FiringsSpent → GoesBeyond schema budget settled) → (ended ≡ end.UnitsSpent → SomeActive schema.rules (copy_state settled.end)) → length gone.entries + fired ≡ length settled.entries →
        IsVisitEnd (exploring_of schema old queries head budget marks) path set ended fired
    end_seen named short relevant ended fired goal still none few long due counted =
        subst (λ s. IsVisitEnd s path set ended fired) (same_space schema queries head budget marks old gone same)
        (visit_end schema queries head budget marks gone settled path set is its settles (made_same old gone path same made) (walk_same schema old gone path set same walk) (named_same schema queries head old gone same named) short (relevant_same schema queries head marks old gone same relevant) ended fired goal still none few long due counted)

    -- how it ended, if memory did not run out
    pub end_if : {E : Type 0} → AreNamedFor schema old.constants old.end.base old.end.next queries head → AreShort schema.rules → AreRelevant schema old.constants old.end.base old.end.next queries head marks → (seen : Result (End × ℕ) E) → IfOk seen (λ s. s.0 ≡ end.Goal → HasGoal queries settled.end head) → IfOk seen (λ s. s.0 ≡ end.NoGoal → IsStill schema.rules marks.makers.items (copy_state settled.end)) → IfOk seen (λ s. s.0 ≡ end.NoGoal → HasGoal queries settled.end head → ⊥) → IfOk seen (λ s. s.0 ≡ end.NoGoal → settled.end.next ≤ 2 ^ 32) →
        IfOk seen (λ s. s.0 ≡ end.FiringsSpent → GoesBeyond schema budget settled) → IfOk seen (λ s. s.0 ≡ end.UnitsSpent → SomeActive schema.rules (copy_state settled.end)) → IfOk seen (λ s. length gone.entries + s.1 ≡ length settled.entries) →
        IfOk seen (λ s. IsVisitEnd (exploring_of schema old queries head budget marks) path set s.0 s.1)
    end_if named short relevant (Ok seen) goal still none few long due counted = end_seen named short relevant seen.0 seen.1 goal still none few long due counted
    end_if named short relevant (Err e) goal still none few long due counted = tt

    -- the proof that was reached
    pub proof_reached : length settled.entries ≤ budget → IsReached (exploring_of schema old queries head budget marks) path settled
    proof_reached few =
        subst (λ s. IsReached s path settled) (same_space schema queries head budget marks old gone same)
        (reached_here schema queries head budget marks gone settled path set is its settles (made_same old gone path same made) (walk_same schema old gone path set same walk) few)

    pub none_there : (ended : Round) → (ended ≡ Done → ⊥) → (ended ≡ Quiet → IsQuiet schema.rules (copy_state settled.end)) → (ended ≡ Spent → (budget ≤ length settled.entries) × SomeActive schema.rules (copy_state settled.end)) → (HasGoal queries settled.end head → ⊥) →
        AreNamedFor schema old.constants old.end.base old.end.next queries head → settled.end.next ≤ 2 ^ 32 →
        HasRunBeyond (exploring_of schema old queries head budget marks) ⊎ (HasGoalAt (exploring_of schema old queries head budget marks) set → ⊥)
    none_there ended going quiet spent none named few =
        subst (λ s. HasRunBeyond s ⊎ (HasGoalAt s set → ⊥)) (same_space schema queries head budget marks old gone same)
        (none_reached schema queries head budget marks gone settled path set is its settles (made_same old gone path same made) (walk_same schema old gone path set same walk) ended going quiet spent none (named_same schema queries head old gone same named) few)

    -- the copy firings were undone
    pub gone_back : (new : Proving) (firings : ℕ) → IsProofOf schema new → new.constants ≡ settled.constants → new.start ≡ settled.start → firings ≡ length gone.entries → new.entries ≡ take firings settled.entries →
        OnlyExposes schema new × SameBase old new × (new.exposed ≡ all_made old.end.base path)
    gone_back new firings new_is constants start all entries =
        let (exposes, on, exposed) = goes_back schema gone settled new is settles new_is constants start (entries ∙ ap (λ n. take n settled.entries) all) in
        (exposes, same_on old gone new same on, exposed ∙ made)
