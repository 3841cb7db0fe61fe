-- Base runs as parts of runs of firings and exposures, and what a run keeps of the lists that it began with.
use Rattle.std.proofs.Common.{◌≡◌, ℕ, ◌≤◌, List, [], ◌∷◌, ◌++◌, length, map, take, drop, refl, sym, ap, ◌∙◌, subst, arith, append_assoc}
use Rattle.std.proofs.lemmas.List.{append-nil, take-append-drop}
use Rattle.meaning_laws.proofs.Added.{added_front}
use Rattle.meaning.specs.declared.types.Val.TheVariants.{Const}
use Rattle.meaning.specs.declared.types.Ground.{Ground}
use Rattle.meaning.specs.declared.types.SchemaParts.{SchemaParts}
use Rattle.meaning.specs.declared.types.Trigger.{Trigger}
use Rattle.meaning.specs.declared.types.Firing.{Firing}
use Rattle.meaning.specs.declared.types.Firing.TheVariants.{Base, Copy, Expose}
use Rattle.meaning.specs.Matching.{MeetsAll, GroundsOf}
use Rattle.meaning.specs.Added.{with_facts}
use Rattle.meaning.specs.Triggers.{State, ground, assigned, fired}
use Rattle.meaning.specs.Runs.{Proof, base_state, copy_state, Fires, part_of, last_part, IsBaseRun, IsRun, IsOrderedRun, NoExposure}
use Rattle.rule_pass.proofs.OnePass.{met_quiet}

-- a list begins with another
abbrev pub Begins : List Ground → List Ground → Type 0
Begins front whole = (rest : List Ground) × (whole ≡ front ++ rest)

begins_itself : (front whole : List Ground) → whole ≡ front → Begins front whole
begins_itself front whole e = ([], e ∙ sym (append-nil front))

begins_on : (front middle whole : List Ground) → Begins front middle → Begins middle whole → Begins front whole
begins_on front middle whole (rest, e) (more, e') = (rest ++ more, e' ∙ ap (λ l. l ++ more) e ∙ append_assoc front rest more)

begins_added : (facts news whole : List Ground) → whole ≡ with_facts facts news → Begins facts whole
begins_added facts news whole e = (
  drop (length facts) (with_facts facts news),
  e ∙ sym (take-append-drop (length facts) (with_facts facts news)) ∙ ap (λ l. l ++ drop (length facts) (with_facts facts news)) (added_front facts news),
)

pub begins_take : (front whole : List Ground) → Begins front whole → take (length front) whole ≡ front
begins_take front whole (rest, e) = ap (take (length front)) e ∙ take_front front
  where
    take_front : (xs : List Ground) → take (length xs) (xs ++ rest) ≡ xs
    take_front [] = refl
    take_front (x ∷ xs) = ap (λ z. x ∷ z) (take_front xs)

pub record AllBegin (proof end : Proof) : Type 0 where
  pub base : Begins proof.base end.base
  pub exposed : Begins proof.exposed end.exposed
  pub copy : Begins proof.copy end.copy

module _ (schema : SchemaParts) (constants : List (List ℕ)) where
  -- a base run from the base facts is a run of base firings
  pub base_run : (proof : Proof) (more : List Trigger) (now : State) → IsBaseRun schema.rules (base_state proof) more now → IsOrderedRun schema constants 0 proof (map Base more) (record proof { base = now.facts; next = now.next })
  base_run proof [] now e = ap (λ (s : State). record proof { base = s.facts; next = s.next }) e
  base_run proof (trigger ∷ more) now (rule, is, run) =
      let next : Proof = record proof { base = (fired (base_state proof) trigger rule).facts; next = (fired (base_state proof) trigger rule).next } in
      (omega arith, (λ e. absurd (omega arith)), (next, (rule, is, refl), base_run next more now run))

  -- one from the copy facts, where the base facts meet the rules and no exposure is active, is a run of copy firings
  pub copy_run : (part : ℕ) (proof : Proof) (more : List Trigger) (now : State) → part ≤ 2 → MeetsAll Const (GroundsOf proof.base) schema.rules → NoExposure schema constants proof → IsBaseRun schema.rules (copy_state proof) more now → IsOrderedRun schema constants part proof (map Copy more) (record proof { copy = now.facts; next = now.next })
  copy_run part proof [] now low meets none e = ap (λ (s : State). record proof { copy = s.facts; next = s.next }) e
  copy_run part proof (trigger ∷ more) now low meets none (rule, is, run) =
      let next : Proof = record proof { copy = (fired (copy_state proof) trigger rule).facts; next = (fired (copy_state proof) trigger rule).next } in (
        low,
        (λ e. none),
        (
          next,
          (rule, is, met_quiet schema.rules (base_state proof) meets, refl),
          copy_run 2 next more now (omega arith) meets
              (λ number fact method active. none number fact method (record { of_base = active.of_base; new = active.new; named = active.named; of_relation = active.of_relation; inputs = active.inputs })) run,
        ),
      )

  ascends : (part : ℕ) (proof : Proof) (log : List Firing) (end : Proof) → IsRun schema constants part proof log end → part ≤ last_part part log
  ascends part proof [] end run = omega arith
  ascends part proof (firing ∷ log) end (order, (next, fires, more)) = let on = ascends (part_of firing) next log end more in omega arith

  -- before the first copy firing the copy facts are the exposed facts
  pub copy_exposed : (part : ℕ) (proof : Proof) (log : List Firing) (end : Proof) → IsRun schema constants part proof log end → last_part part log ≤ 1 → proof.copy ≡ proof.exposed → end.copy ≡ end.exposed
  copy_exposed part proof [] end run low same = subst (λ (p : Proof). p.copy ≡ p.exposed) (sym run) same
  copy_exposed part proof (Base trigger ∷ log) end (order, (next, (rule, is, e), more)) low same = copy_exposed 0 next log end more low (subst (λ (p : Proof). p.copy ≡ p.exposed) (sym e) same)
  copy_exposed part proof (Expose number fact ∷ log) end (order, (next, (method, is, quiet, e), more)) low same = copy_exposed 1 next log end more low (subst (λ (p : Proof). p.copy ≡ p.exposed) (sym e) (ap (λ l. l ++ fact ∷ []) same))
  copy_exposed part proof (Copy trigger ∷ log) end (order, (next, fires, more)) low same = let on = ascends 2 next log end more in absurd (omega arith)

  one_begins : (proof : Proof) (firing : Firing) (next : Proof) → Fires schema constants proof firing next → AllBegin proof next
  one_begins proof (Base trigger) next (rule, is, e) = record {
    base = begins_added proof.base (map (ground (assigned trigger)) rule.head) next.base (ap (λ (p : Proof). p.base) e);
    exposed = begins_itself proof.exposed next.exposed (ap (λ (p : Proof). p.exposed) e);
    copy = begins_itself proof.copy next.copy (ap (λ (p : Proof). p.copy) e);
  }
  one_begins proof (Copy trigger) next (rule, is, quiet, e) = record {
    base = begins_itself proof.base next.base (ap (λ (p : Proof). p.base) e);
    exposed = begins_itself proof.exposed next.exposed (ap (λ (p : Proof). p.exposed) e);
    copy = begins_added proof.copy (map (ground (assigned trigger)) rule.head) next.copy (ap (λ (p : Proof). p.copy) e);
  }
  one_begins proof (Expose number fact) next (method, is, quiet, e) = record {
    base = begins_itself proof.base next.base (ap (λ (p : Proof). p.base) e);
    exposed = (fact ∷ [], ap (λ (p : Proof). p.exposed) e);
    copy = (fact ∷ [], ap (λ (p : Proof). p.copy) e);
  }

  -- each list of a run begins with what it was: so cutting the lists back to their lengths gives the earlier proof
  pub run_begins : (part : ℕ) (proof : Proof) (log : List Firing) (end : Proof) → IsRun schema constants part proof log end → AllBegin proof end
  run_begins part proof [] end e = record {
    base = begins_itself proof.base end.base (ap (λ (p : Proof). p.base) e);
    exposed = begins_itself proof.exposed end.exposed (ap (λ (p : Proof). p.exposed) e);
    copy = begins_itself proof.copy end.copy (ap (λ (p : Proof). p.copy) e);
  }
  run_begins part proof (firing ∷ log) end (order, (next, fires, more)) =
      let one = one_begins proof firing next fires in let rest = run_begins (part_of firing) next log end more in
      record {
        base = begins_on proof.base next.base end.base one.base rest.base;
        exposed = begins_on proof.exposed next.exposed end.exposed one.exposed rest.exposed;
        copy = begins_on proof.copy next.copy end.copy one.copy rest.copy;
      }
