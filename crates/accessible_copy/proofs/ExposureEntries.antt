-- An exposure as an entry of a log.
use Rattle.std.proofs.Common.{◌≡◌, ℕ, ◌≤◌, List, [], ◌∷◌, ◌++◌, length, take, refl, sym, ap, ◌∙◌, subst, ⊎_elim, arith}
use Rattle.std.specs.Prelude.{Contains}
use Rattle.std.proofs.lemmas.List.{length-map, map-append}
use Rattle.lists.proofs.Members.{contains_cases}
use Rattle.meaning.specs.declared.types.SchemaParts.{SchemaParts}
use Rattle.meaning.specs.declared.types.Method.{Method}
use Rattle.meaning.specs.declared.types.Ground.{Ground}
use Rattle.meaning.specs.declared.types.Val.TheVariants.{Label}
use Rattle.meaning.specs.declared.types.Firing.TheVariants.{Expose}
use Rattle.meaning.specs.Added.{with_facts}
use Rattle.meaning.specs.Triggers.{LabelsBelow}
use Rattle.meaning.specs.Runs.{last_part, IsActiveExposure, IsBaseQuiet, IsOrderedRun}
use Rattle.meaning_laws.proofs.Added.{with_new}
use Rattle.meaning_laws.proofs.Running.{run_push}
use Rattle.rule_pass.proofs.Parts.{copy_exposed}
use Rattle.accessible_copy.specs.declared.entry.Entry.{Entry}
use Rattle.accessible_copy.specs.declared.entry.Exposed.{Exposed}
use Rattle.accessible_copy.specs.Known.{facts_of}
use Rattle.accessible_copy.specs.Proving.{Proving, log_of, sizes_of, IsProofOf}
use Rattle.accessible_copy.specs.Exposing.{with_exposure}
use Rattle.accessible_copy.proofs.Lists.{take_front}
use Rattle.accessible_copy.proofs.Writing.{exposed_on, firings_on, written_on, written_run}

module _ (schema : SchemaParts) (proof : Proving) (number : ℕ) (fact : Ground) (of : Method) (is : IsProofOf schema proof) (active : IsActiveExposure schema proof.constants proof.end number fact of) (part : last_part 0 (log_of proof) ≤ 1) where
  -- the copy facts are the exposed facts, so the fact is new there
  pub copy_new : with_facts proof.end.copy (fact ∷ []) ≡ proof.end.copy ++ fact ∷ []
  copy_new = with_new proof.end.copy fact (λ c. active.new (subst (λ facts. Contains facts fact) same c))
    where
      same : proof.end.copy ≡ proof.end.exposed
      same = copy_exposed schema proof.constants 0 proof.start (log_of proof) proof.end (written_run schema proof.constants 0 proof.start proof.entries proof.end is.written) part (is.none_copied ∙ sym is.none_exposed)

  pub exposed_proof : IsBaseQuiet schema proof.end → IsProofOf schema (with_exposure proof number fact)
  exposed_proof quiet = record {
    low = is.low;
    labels = is.labels;
    once = is.once;
    none_exposed = is.none_exposed;
    none_copied = is.none_copied;
    numbered = is.numbered;
    written = written_on schema proof.constants 0 proof.start proof.entries proof.end (entry ∷ []) (with_exposure proof number fact).end is.written (part, refl, ((with_exposure proof number fact).end, (of, active, quiet, refl), refl));
    exposed = ap (λ l. l ++ record { method = number; fact = fact } ∷ []) is.exposed ∙ sym (exposed_on proof.entries (entry ∷ []));
  }
    where
      entry : Entry
      entry = record { firing = Expose number fact; before = sizes_of proof.constants proof.end }

  pub exposed_ordered : IsBaseQuiet schema proof.end → IsOrderedRun schema proof.constants 0 proof.start (log_of proof) proof.end → IsOrderedRun schema proof.constants 0 proof.start (log_of (with_exposure proof number fact)) (with_exposure proof number fact).end
  exposed_ordered quiet run = subst (λ l. IsOrderedRun schema proof.constants 0 proof.start l (with_exposure proof number fact).end) (sym (firings_on proof.entries (record { firing = Expose number fact; before = sizes_of proof.constants proof.end } ∷ [])))
      (run_push schema proof.constants 0 proof.start (log_of proof) proof.end (Expose number fact) (with_exposure proof number fact).end run part (λ e. absurd (omega arith)) (of, active, quiet, refl))

-- the labels of a fact that stands in facts
pub fact_below : (facts : List Ground) (fact : Ground) (next : ℕ) → Contains facts fact → LabelsBelow facts next → LabelsBelow (fact ∷ []) next
fact_below facts fact next there below other k among has = ⊎_elim (λ same. below fact k there (subst (λ (f : Ground). Contains f.vals (Label k)) (sym same) has)) (λ none. absurd (omega arith)) (contains_cases fact [] other among)

-- one fact more among the exposed
pub facts_push : (exposed : List Exposed) (one : Exposed) → facts_of (exposed ++ one ∷ []) ≡ facts_of exposed ++ one.fact ∷ []
facts_push exposed one = map-append (λ (e : Exposed). e.fact) exposed (one ∷ [])

-- and taken back
pub taken_back : (exposed : List Exposed) (one : Exposed) → take (length (facts_of exposed)) (exposed ++ one ∷ []) ≡ exposed
taken_back exposed one = ap (λ n. take n (exposed ++ one ∷ [])) (length-map exposed (λ (e : Exposed). e.fact)) ∙ take_front exposed (one ∷ [])
