-- How an ordered run goes on.
use Rattle.std.proofs.Common.{ℕ, ◌<◌, ◌≤◌, List, [], ◌∷◌, ◌++◌, length, refl, sym, subst, ⊎_elim, arith}
use Rattle.std.specs.Prelude.{Contains}
use Rattle.std.proofs.lemmas.Bool.{cases_lt}
use Rattle.lists.proofs.Members.{contains_here}
use Rattle.meaning.specs.declared.types.SchemaParts.{SchemaParts}
use Rattle.meaning.specs.declared.types.Ground.{Ground}
use Rattle.meaning.specs.declared.types.Method.{Method}
use Rattle.meaning.specs.declared.types.Firing.{Firing}
use Rattle.meaning.specs.declared.types.Firing.TheVariants.{Base, Copy, Expose}
use Rattle.meaning.specs.Triggers.{fired}
use Rattle.meaning.specs.Runs.{Proof, base_state, copy_state, last_part, IsOrderedRun, NoExposure, IsBaseQuiet, IsActiveExposure}
use Rattle.meaning_laws.proofs.Running.{run_push}
use Rattle.rule_pass.specs.States.{SomeActive}
use Rattle.accessible_copy.specs.Proving.{Proving, IsProofOf, log_of, IsOrdered}
use Rattle.accessible_copy.specs.Listing.{CanFire, AreExposures}
use Rattle.accessible_copy.specs.Rounds.{GoesOn}
use Rattle.accessible_copy.proofs.BaseStaysMet.{active_first}
use Rattle.accessible_copy.proofs.PassEntries.{part_low}

module _ (schema : SchemaParts) (constants : List (List ℕ)) where
  -- after a copy firing no exposure is active
  pub run_bare : (part : ℕ) (proof : Proof) (log : List Firing) (end : Proof) → IsOrderedRun schema constants part proof log end → (2 ≤ part → NoExposure schema constants proof) → 2 ≤ last_part part log → NoExposure schema constants end
  run_bare part proof [] end e bare l = subst (NoExposure schema constants) (sym e) (bare l)
  run_bare part proof (Base trigger ∷ log) end (order, waits, (next, fires, more)) bare l = run_bare 0 next log end more (λ low. absurd (omega arith)) l
  run_bare part proof (Expose number fact ∷ log) end (order, waits, (next, fires, more)) bare l = run_bare 1 next log end more (λ low. absurd (omega arith)) l
  run_bare part proof (Copy trigger ∷ log) end (order, waits, (next, (rule, is, quiet, e), more)) bare l =
      run_bare 2 next log end more (λ low. subst (NoExposure schema constants) (sym e)
      (λ number fact method active. waits refl number fact method (record { of_base = active.of_base; new = active.new; named = active.named; of_relation = active.of_relation; inputs = active.inputs }))) l

module _ (schema : SchemaParts) (proof : Proving) (is : IsProofOf schema proof) (ordered : IsOrdered schema proof) where
  pub goes_base : SomeActive schema.rules (base_state proof.end) → GoesOn schema proof
  goes_base (trigger, (rule, first)) =
      let low = active_first schema proof is trigger rule first in
      let next : Proof = record proof.end { base = (fired (base_state proof.end) trigger rule).facts; next = (fired (base_state proof.end) trigger rule).next } in
      (Base trigger, next, run_push schema proof.constants 0 proof.start (log_of proof) proof.end (Base trigger) next ordered (omega arith) (λ e. absurd (omega arith)) (rule, first, refl))

  -- an exposure that is active comes before the first copy firing
  pub expose_low : (number : ℕ) (fact : Ground) (method : Method) → IsActiveExposure schema proof.constants proof.end number fact method → last_part 0 (log_of proof) ≤ 1
  expose_low number fact method active = ⊎_elim (λ high. absurd (run_bare schema proof.constants 0 proof.start (log_of proof) proof.end ordered (λ l. absurd (omega arith)) (omega arith) number fact method active)) (λ not. omega arith) (cases_lt 1 (last_part 0 (log_of proof)))

  pub goes_expose : IsBaseQuiet schema proof.end → (number : ℕ) (fact : Ground) → CanFire schema proof number fact → GoesOn schema proof
  goes_expose quiet number fact (method, active) =
      let next : Proof = record proof.end { exposed = proof.end.exposed ++ fact ∷ []; copy = proof.end.copy ++ fact ∷ [] } in
      (Expose number fact, next, run_push schema proof.constants 0 proof.start (log_of proof) proof.end (Expose number fact) next ordered (expose_low number fact method active) (λ e. absurd (omega arith)) (method, active, quiet, refl))

  pub goes_copy : IsBaseQuiet schema proof.end → NoExposure schema proof.constants proof.end → SomeActive schema.rules (copy_state proof.end) → GoesOn schema proof
  goes_copy quiet bare (trigger, (rule, first)) =
      let next : Proof = record proof.end { copy = (fired (copy_state proof.end) trigger rule).facts; next = (fired (copy_state proof.end) trigger rule).next } in
      (Copy trigger, next, run_push schema proof.constants 0 proof.start (log_of proof) proof.end (Copy trigger) next ordered (part_low 0 (log_of proof) (omega arith)) (λ e. bare) (rule, first, quiet, refl))

  -- the list of exposures
  pub goes_listed : (found : List Firing) → IsBaseQuiet schema proof.end → AreExposures schema proof proof.end.base found → 0 < length found → GoesOn schema proof
  goes_listed [] quiet are l = absurd (omega arith)
  goes_listed (firing ∷ found) quiet are l = let (number, fact, e, among, can) = are.each firing (contains_here firing found) in goes_expose quiet number fact can

pub none_listed : (schema : SchemaParts) (proof : Proving) (found : List Firing) → AreExposures schema proof proof.end.base found → (0 < length found → ⊥) → NoExposure schema proof.constants proof.end
none_listed schema proof [] are l number fact method active = let c : Contains [] (Expose number fact) = are.all number fact active.of_base (method, active) in absurd (omega arith)
none_listed schema proof (firing ∷ found) are l number fact method active = absurd (l (omega arith))
