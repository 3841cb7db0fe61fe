-- What stays along a run: base rules that are met, and exposures that are active.
use Rattle.std.proofs.Common.{◌≡◌, ℕ, ◌≤◌, List, [], ◌∷◌, ◌++◌, length, refl, ◌∙◌, sym, ap, subst, inl, inr, ⊎_elim, arith}
use Rattle.std.specs.Prelude.{Contains}
use Rattle.meaning.specs.declared.types.SchemaParts.{SchemaParts}
use Rattle.meaning.specs.declared.types.Ground.{Ground}
use Rattle.meaning.specs.declared.types.Method.{Method}
use Rattle.meaning.specs.declared.types.Val.TheVariants.{Const}
use Rattle.meaning.specs.declared.types.Firing.{Firing}
use Rattle.meaning.specs.declared.types.Firing.TheVariants.{Base, Copy, Expose}
use Rattle.meaning.specs.Matching.{MeetsAll, GroundsOf}
use Rattle.meaning.specs.Triggers.{AreNumbered}
use Rattle.meaning.specs.Runs.{Proof, base_state, part_of, last_part, IsRun, IsActiveExposure, IsBaseQuiet}
use Rattle.std.proofs.lemmas.Bool.{cases_lt}
use Rattle.meaning.specs.declared.types.Rule.{Rule}
use Rattle.meaning.specs.declared.types.Trigger.{Trigger}
use Rattle.meaning.specs.Runs.{IsFirstActive}
use Rattle.rule_pass.proofs.OnePass.{met_quiet}
use Rattle.meaning_laws.proofs.Deciding.{quiet_meets}
use Rattle.accessible_copy.specs.declared.entry.Entry.{Entry}
use Rattle.accessible_copy.specs.Proving.{Proving, IsProofOf, IsWritten, firings_of, exposed_by, exposed_in, log_of}
use Rattle.accessible_copy.proofs.Writing.{written_run}

module _ (schema : SchemaParts) (constants : List (List ℕ)) where
  meets_on : (proof next : Proof) → AreNumbered schema.rules → MeetsAll Const (GroundsOf proof.base) schema.rules → next.base ≡ proof.base → MeetsAll Const (GroundsOf next.base) schema.rules
  meets_on proof next numbered meets e = subst (λ facts. MeetsAll Const (GroundsOf facts) schema.rules) (sym e) meets

  pub run_meets : (part : ℕ) (proof : Proof) (log : List Firing) (end : Proof) → AreNumbered schema.rules → IsRun schema constants part proof log end → (1 ≤ part → MeetsAll Const (GroundsOf proof.base) schema.rules) → 1 ≤ last_part part log → MeetsAll Const (GroundsOf end.base) schema.rules
  run_meets part proof [] end numbered e meets l = meets_on proof end numbered (meets l) (ap (λ (p : Proof). p.base) e)
  run_meets part proof (Base trigger ∷ log) end numbered (order, (next, fires, more)) meets l = run_meets 0 next log end numbered more (λ low. absurd (omega arith)) l
  run_meets part proof (Expose number fact ∷ log) end numbered (order, (next, (method, is, quiet, e), more)) meets l =
      run_meets 1 next log end numbered more (λ low. meets_on proof next numbered (quiet_meets schema.rules (base_state proof) numbered quiet) (ap (λ (p : Proof). p.base) e)) l
  run_meets part proof (Copy trigger ∷ log) end numbered (order, (next, (rule, is, quiet, e), more)) meets l =
      run_meets 2 next log end numbered more (λ low. meets_on proof next numbered (quiet_meets schema.rules (base_state proof) numbered quiet) (ap (λ (p : Proof). p.base) e)) l

pub base_meets : (schema : SchemaParts) (proof : Proving) → IsProofOf schema proof → 1 ≤ last_part 0 (log_of proof) → MeetsAll Const (GroundsOf proof.end.base) schema.rules
base_meets schema proof is l =
    run_meets schema proof.constants 0 proof.start (log_of proof) proof.end is.numbered (written_run schema proof.constants 0 proof.start proof.entries proof.end is.written) (λ low. absurd (omega arith)) l

pub exposure_stays : (schema : SchemaParts) (old new : Proving) (number : ℕ) (fact : Ground) (method : Method) → new.constants ≡ old.constants → new.end.base ≡ old.end.base
    → ((other : Ground) → Contains old.end.exposed other → Contains new.end.exposed other) → (Contains new.end.exposed fact → ⊥) → IsActiveExposure schema old.constants old.end number fact method → IsActiveExposure schema new.constants new.end number fact method
exposure_stays schema old new number fact method c b more not is = record {
  of_base = rw b is.of_base;
  new = not;
  named = is.named;
  of_relation = is.of_relation;
  inputs = λ p among.
      let (value, at, known) = is.inputs p among in
      (value, at, ⊎_elim (λ (text, in_list, e). inl (text, rw c in_list, e)) (λ (other, there, has). inr (other, more other there, has)) known);
}

-- a base trigger that is active comes before the first exposure
pub active_first : (schema : SchemaParts) (proof : Proving) → IsProofOf schema proof → (trigger : Trigger) (rule : Rule) → IsFirstActive schema.rules (base_state proof.end) trigger rule → last_part 0 (log_of proof) ≡ 0
active_first schema proof is trigger rule first =
    ⊎_elim (λ low. absurd (met_quiet schema.rules (base_state proof.end) (base_meets schema proof is (omega arith)) trigger rule first.active)) (λ none. omega arith) (cases_lt 0 (last_part 0 (log_of proof)))

-- where a fact is exposed, the log has come to the exposures
module _ (schema : SchemaParts) (constants : List (List ℕ)) where
  written_late : (part : ℕ) (proof : Proof) (entries : List Entry) (end : Proof) → IsWritten schema constants part proof entries end → part ≤ last_part part (firings_of entries)
  written_late part proof [] end e = omega arith
  written_late part proof (entry ∷ entries) end (order, sizes, (next, fires, more)) = let l = written_late (part_of entry.firing) next entries end more in omega arith

  below : (n : ℕ) → 2 ≤ n → 1 ≤ n
  below n low = omega arith

  exposed_late : (part : ℕ) (proof : Proof) (entries : List Entry) (end : Proof) → IsWritten schema constants part proof entries end → (exposed_in entries ≡ [] → ⊥) → 1 ≤ last_part part (firings_of entries)
  exposed_late part proof [] end e not = absurd (not refl)
  exposed_late part proof (entry ∷ entries) end (order, sizes, (next, fires, more)) not = by entry.firing not more (λ rest. exposed_late (part_of entry.firing) next entries end more rest)
    where
      by : (firing : Firing) → (exposed_by firing ++ exposed_in entries ≡ [] → ⊥) → IsWritten schema constants (part_of firing) next entries end
          → ((exposed_in entries ≡ [] → ⊥) → 1 ≤ last_part (part_of firing) (firings_of entries)) → 1 ≤ last_part (part_of firing) (firings_of entries)
      by (Base trigger) not more step = step not
      by (Copy trigger) not more step = below (last_part 2 (firings_of entries)) (written_late 2 next entries end more)
      by (Expose number fact) not more step = written_late 1 next entries end more

pub exposed_quiet : (schema : SchemaParts) (proof : Proving) → IsProofOf schema proof → 1 ≤ length proof.exposed → IsBaseQuiet schema proof.end
exposed_quiet schema proof is long =
    let late = exposed_late schema proof.constants 0 proof.start proof.entries proof.end is.written (λ none. let same = ap length (is.exposed ∙ none) in absurd (omega arith)) in
    met_quiet schema.rules (base_state proof.end) (base_meets schema proof is late)
