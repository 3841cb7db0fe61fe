-- A run goes on by one firing, is cut at any place, and its log fixes its end.
use Rattle.std.proofs.Common.{◌≡◌, ℕ, ◌≤◌, List, [], ◌∷◌, ◌++◌, refl, sym, ap, ◌∙◌, subst}
use Rattle.lists.proofs.Members.{some_injective}
use Rattle.meaning.specs.declared.types.SchemaParts.{SchemaParts}
use Rattle.meaning.specs.declared.types.Firing.{Firing}
use Rattle.meaning.specs.declared.types.Firing.TheVariants.{Base, Copy, Expose}
use Rattle.meaning.specs.Triggers.{fired}
use Rattle.meaning.specs.Runs.{Proof, Fires, part_of, base_state, copy_state, IsOrderedRun, NoExposure, last_part, IsRun}

module _ (schema : SchemaParts) (constants : List (List ℕ)) where
  -- one more firing at the end
  pub run_push : (part : ℕ) (proof : Proof) (log : List Firing) (end : Proof) (firing : Firing) (next : Proof) → IsOrderedRun schema constants part proof log end → last_part part log ≤ part_of firing → (part_of firing ≡ 2 → NoExposure schema constants end) → Fires schema constants end firing next → IsOrderedRun schema constants part proof (log ++ firing ∷ []) next
  run_push part proof [] end firing next e order waits fires = (order, subst (λ p. part_of firing ≡ 2 → NoExposure schema constants p) e waits, (next, subst (λ p. Fires schema constants p firing next) e fires, refl))
  run_push part proof (first ∷ log) end firing next (order', waits', (middle, fires', more)) order waits fires = (order', waits', (middle, fires', run_push (part_of first) middle log end firing next more order waits fires))

  -- the first firings of a run are a run, and so is the rest
  pub run_split : (part : ℕ) (proof : Proof) (log more : List Firing) (end : Proof) → IsOrderedRun schema constants part proof (log ++ more) end → (middle : Proof) × IsOrderedRun schema constants part proof log middle × IsOrderedRun schema constants (last_part part log) middle more end
  run_split part proof [] more end run = (proof, refl, run)
  run_split part proof (first ∷ log) more end (order, waits, (next, fires, rest)) =
      let (middle, before, after) = run_split (part_of first) next log more end rest in
      (middle, (order, waits, (next, fires, before)), after)

  -- the same of runs that need not be ordered
  pub plain_push : (part : ℕ) (proof : Proof) (log : List Firing) (end : Proof) (firing : Firing) (next : Proof) → IsRun schema constants part proof log end → last_part part log ≤ part_of firing → Fires schema constants end firing next → IsRun schema constants part proof (log ++ firing ∷ []) next
  plain_push part proof [] end firing next e order fires = (order, (next, subst (λ p. Fires schema constants p firing next) e fires, refl))
  plain_push part proof (first ∷ log) end firing next (order', (middle, fires', more)) order fires = (order', (middle, fires', plain_push (part_of first) middle log end firing next more order fires))

  pub plain_split : (part : ℕ) (proof : Proof) (log more : List Firing) (end : Proof) → IsRun schema constants part proof (log ++ more) end → (middle : Proof) × IsRun schema constants part proof log middle × IsRun schema constants (last_part part log) middle more end
  plain_split part proof [] more end run = (proof, refl, run)
  plain_split part proof (first ∷ log) more end (order, (next, fires, rest)) =
      let (middle, before, after) = plain_split (part_of first) next log more end rest in
      (middle, (order, (next, fires, before)), after)

  -- a firing leads to one proof
  pub fires_once : (proof : Proof) (firing : Firing) (first second : Proof) → Fires schema constants proof firing first → Fires schema constants proof firing second → first ≡ second
  fires_once proof (Base trigger) first second (rule, is, e) (other, its, e') =
      let same : rule ≡ other = some_injective rule other (sym is.active.trigger_is.numbered ∙ its.active.trigger_is.numbered) in
      e ∙ ap (λ r. record proof { base = (fired (base_state proof) trigger r).facts; next = (fired (base_state proof) trigger r).next }) same ∙ sym e'
  fires_once proof (Copy trigger) first second (rule, is, quiet, e) (other, its, quiet', e') =
      let same : rule ≡ other = some_injective rule other (sym is.active.trigger_is.numbered ∙ its.active.trigger_is.numbered) in
      e ∙ ap (λ r. record proof { copy = (fired (copy_state proof) trigger r).facts; next = (fired (copy_state proof) trigger r).next }) same ∙ sym e'
  fires_once proof (Expose number fact) first second (method, is, quiet, e) (other, its, quiet', e') = e ∙ sym e'

  -- a log fixes the proof that it leads to
  pub run_once : (part other : ℕ) (proof : Proof) (log : List Firing) (first second : Proof) → IsRun schema constants part proof log first → IsRun schema constants other proof log second → first ≡ second
  run_once part other proof [] first second e e' = e ∙ sym e'
  run_once part other proof (firing ∷ log) first second (order, (next, fires, more)) (order', (next', fires', more')) =
      run_once (part_of firing) (part_of firing) next log first second more (subst (λ p. IsRun schema constants (part_of firing) p log second) (sym (fires_once proof firing next next' fires fires')) more')
