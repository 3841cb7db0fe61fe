-- What the decision on a statement makes of a batch.
use Rattle.std.proofs.Common.{◌≡◌, ◌∙◌, ℕ, ◌+◌, ◌<◌, ◌≤◌, List, [], ◌∷◌, ◌++◌, length, take, drop, Option, Result, Ok}
use Rattle.std.proofs.Common.{refl, sym, ap, subst, append_assoc, get_or}
use Rattle.std.specs.Str.{IsUtf8}
use Rattle.std.proofs.lemmas.List.{take-append-drop}
use Rattle.lists.proofs.Places.{take_indexed}
use Rattle.meaning.specs.declared.types.Statement.{Statement}
use Rattle.meaning.specs.declared.types.Plan.{Plan}
use Rattle.meaning.specs.declared.types.Firing.{Firing}
use Rattle.access_schema.specs.declared.schema.Schema.{Schema}
use Rattle.sql_select.specs.Statements.{StatementFits}
use Rattle.findings.specs.declared.refutation.Witness.{Witness}
use Rattle.findings.specs.declared.decision.Chosen.{Chosen}
use Rattle.findings.specs.declared.decision.Decision.{Decision}
use Rattle.findings.specs.declared.decision.Decision.TheVariants.{Plan as Planned, NoPlan, Undecided}
use Rattle.command_io.specs.declared.stop.Stop.{Stop}
use Rattle.command_io.specs.declared.outcome.Outcome.{Outcome}
use Rattle.command_io.specs.declared.outcome.Outcome.TheVariants as outcome
use Rattle.command_io.specs.Writing.{TookAll}
use Rattle.command_io.specs.FaultLines.{Names}
use Rattle.run_command.specs.Deciding.{IsPlanned, IsDecided, outcome_of}
use Rattle.run_command.specs.Deciding.IsDecided.{plan as right_plan, no_plan as right_pair, undecided as right_log}
use Rattle.run_command.proofs.RightDecisions.{planned, refuted as refutation_told}
use Rattle.batch_command.specs.Deciding.{query_line, IsNumbered, Told, plans_of, AreTold, EndsAt, Halts}
use Rattle.batch_command.specs.Deciding.EndsAt.{refuted, undecided}
use Rattle.batch_command.proofs.Texts.{told_length, line_and_text}

-- ---- the text of a decision that was written whole

module _ (schema : Schema) (statement : Statement) (firings search number : ℕ) (decision : Decision)
    (right : IsDecided schema statement firings search decision)
    (fits : StatementFits schema statement) (old new : Option (List ℕ)) (text : List ℕ)
    (numbered : IsNumbered number schema decision text) (took : TookAll old new text) where
  behind_line : TookAll old new (query_line number ++ numbered.behind)
  behind_line = subst (TookAll old new) numbered.whole took

  -- a plan was told
  pub plan_told : (plan : Plan) (entries : List Chosen) → decision ≡ Planned plan entries →
      (told : Told) × IsPlanned schema statement firings search told.plan told.entries × TookAll old new (line_and_text number told)
      × (plan ≡ told.plan)
  plan_told plan entries is = go (subst (IsDecided schema statement firings search) is right)
      (subst (λ d. IsNumbered number schema d text) is numbered)
    where
      go : IsDecided schema statement firings search (Planned plan entries) → IsNumbered number schema (Planned plan entries) text →
          (told : Told) × IsPlanned schema statement firings search told.plan told.entries × TookAll old new (line_and_text number told)
          × (plan ≡ told.plan)
      go (right_plan of its for can chosen) its_text = (
        record { plan = plan; entries = entries },
        planned schema statement firings search plan entries for can chosen (subst IsUtf8 its_text.is its_text.utf8),
        subst (TookAll old new) (its_text.whole ∙ ap (λ l. query_line number ++ l) its_text.is) took,
        refl,
      )

  module _ (names : Names) (before_faults after_faults : ℕ) where
    -- a refutation ends the batch
    pub none_told : (pair : Witness) → decision ≡ NoPlan pair → EndsAt schema firings search number statement names old new
        before_faults after_faults (Ok outcome.No)
    none_told pair is = go (subst (IsDecided schema statement firings search) is right)
        (subst (λ d. IsNumbered number schema d text) is numbered)
      where
        go : IsDecided schema statement firings search (NoPlan pair) → IsNumbered number schema (NoPlan pair) text →
            EndsAt schema firings search number statement names old new before_faults after_faults (Ok outcome.No)
        go (right_pair of for) its = refuted its.behind (refutation_told schema statement firings pair its.behind fits for its.is its.utf8)
            (subst (TookAll old new) its.whole took)

    -- and so does the log of spent firings
    pub log_told : (select : ℕ) (log : List Firing) → decision ≡ Undecided select log →
        EndsAt schema firings search number statement names old new before_faults after_faults (Ok outcome.Undecided)
    log_told select log is = go (subst (IsDecided schema statement firings search) is right)
        (subst (λ d. IsNumbered number schema d text) is numbered)
      where
        go : IsDecided schema statement firings search (Undecided select log) → IsNumbered number schema (Undecided select log) text →
            EndsAt schema firings search number statement names old new before_faults after_faults (Ok outcome.Undecided)
        go (right_log one its for) its_text = undecided select log for
            (subst (TookAll old new) (its_text.whole ∙ ap (λ l. query_line number ++ l) its_text.is) took)

    -- so a decision without a plan ends it with its outcome
    pub outcome_told : (its : Decision) (end : Outcome) → decision ≡ its → end ≡ outcome_of its → (end ≡ outcome.Done → ⊥) →
        EndsAt schema firings search number statement names old new before_faults after_faults (Ok end)
    outcome_told (Planned plan entries) end is same not = absurd (not same)
    outcome_told (NoPlan pair) end is same not = subst (λ o. EndsAt schema firings search number statement names old new before_faults
        after_faults (Ok o)) (sym same) (none_told pair is)
    outcome_told (Undecided select log) end is same not = subst (λ o. EndsAt schema firings search number statement names old new
        before_faults after_faults (Ok o)) (sym same) (log_told select log is)

-- ---- a batch that ends at a statement

pub halts_at : (schema : Schema) (firings search : ℕ) (statements : List Statement) (names : Names)
    (before middle after : Option (List ℕ)) (before_faults faults after_faults : ℕ) (i : ℕ) (statement : Statement) (told : List Told)
    (plans : List Plan) (result : Result Outcome Stop) → i < length statements → statement ≡ get_or statements i statement →
    AreTold schema firings search (take i statements) before middle told → plans ≡ plans_of told →
    before_faults ≤ faults → faults ≤ after_faults → EndsAt schema firings search
    (length plans + 1) statement names middle after faults after_faults result →
    Halts schema firings search statements names before after before_faults after_faults result
halts_at schema firings search statements names before middle after before_faults faults after_faults i statement told plans result low
    is are same begun ended at_it = record {
      front = take i statements;
      statement = statement;
      rest = drop (i + 1) statements;
      told = told;
      middle = middle;
      count = record { faults = faults; begun = begun; ended = ended };
      all = sym (take-append-drop (i + 1) statements) ∙ ap (λ list. list ++ drop (i + 1) statements)
          (take_indexed statements i statement low is)
          ∙ append_assoc (take i statements) (statement ∷ []) (drop (i + 1) statements);
      before_it = are;
      at_it = subst (λ n. EndsAt schema firings search n statement names middle after faults after_faults result)
          (ap (λ n. n + 1) (ap length same ∙ told_length schema firings search (take i statements) before middle told are)) at_it;
    }
