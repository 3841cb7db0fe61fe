-- Runs depend on the set of facts alone.
use Rattle.std.proofs.Common.{◌≡◌, ◌≤◌, List, [], ◌∷◌, refl, sym, subst, ⊎_elim}
use Rattle.std.specs.Prelude.{Contains, map}
use Rattle.meaning_laws.proofs.Added.{added_cases, added_left, added_right}
use Rattle.meaning.specs.declared.types.Rule.{Rule}
use Rattle.meaning.specs.declared.types.Ground.{Ground}
use Rattle.meaning.specs.declared.types.Trigger.{Trigger}
use Rattle.meaning.specs.Triggers.{State, assigned, ground, IsTrigger, fired, IsFiringRun}

-- the same facts, and the same next label
pub record Alike (first second : State) : Type 0 where
  pub to : (fact : Ground) → Contains first.facts fact → Contains second.facts fact
  pub from : (fact : Ground) → Contains second.facts fact → Contains first.facts fact
  pub next : first.next ≡ second.next

pub trigger_alike : (rules : List Rule) (first second : State) (trigger : Trigger) (rule : Rule) → Alike first second → IsTrigger rules first trigger rule → IsTrigger rules second trigger rule
trigger_alike rules first second trigger rule alike is =
    record { numbered = is.numbered; width = is.width; fresh = subst (λ n. n ≤ trigger.fresh) alike.next is.fresh; body = λ atom c. alike.to (ground (assigned trigger) atom) (is.body atom c) }

pub run_alike : (rules : List Rule) (log : List Trigger) (first end second : State) → Alike first second → IsFiringRun rules first log end → (other : State) × IsFiringRun rules second log other × Alike end other
run_alike rules [] first end second alike run = (second, refl, subst (λ s. Alike s second) (sym run) alike)
run_alike rules (trigger ∷ log) first end second alike (rule, is, more) =
    let (other, run, same) = run_alike rules log (fired first trigger rule) end (fired second trigger rule) (record { to = grown first second alike.to; from = grown second first alike.from; next = refl }) more in
    (other, (rule, trigger_alike rules first second trigger rule alike is, run), same)
  where
    grown : (s t : State) → ((fact : Ground) → Contains s.facts fact → Contains t.facts fact) → (fact : Ground) → Contains (fired s trigger rule).facts fact → Contains (fired t trigger rule).facts fact
    grown s t within fact c =
        ⊎_elim (λ old. added_left t.facts (map (ground (assigned trigger)) rule.head) fact (within fact old))
        (λ new. added_right t.facts (map (ground (assigned trigger)) rule.head) fact new)
        (added_cases s.facts (map (ground (assigned trigger)) rule.head) fact c)
