-- Runs that fire active triggers alone, and a round of them, after which each match that there was is met. The next label
-- after a firing is behind the labels that it gave, or the same, so that the next firing gives them again.
use Rattle.std.proofs.Common.{◌≡◌, ℕ, ◌+◌, ◌-◌, ◌<◌, List, [], ◌∷◌, ◌++◌, length, Option, Some, None, refl, sym, ap, ◌∙◌, subst, ⊎_elim, arith}
use Rattle.std.proofs.Math.Decide.{ℕ_discrete}
use Rattle.std.specs.Prelude.{Contains, slice_get, slice_index_or, map}
use Rattle.std.proofs.lemmas.Option.{slice_get-get_or}
use Rattle.lists.proofs.Members.{contains_cases, contains_got, contains_map, some_injective}
use Rattle.meaning_laws.proofs.Joined.{joined_below}
use Rattle.meaning_laws.proofs.Added.{added_left, added_right}
use Rattle.meaning_laws.proofs.Carrying.{occurs_below}
use Rattle.meaning_laws.proofs.Deciding.{dec_facts, dec_extends, same_facts}
use Rattle.meaning_laws.proofs.Candidates.{candidates, candidate_of}
use Rattle.meaning.specs.declared.types.Val.{Val}
use Rattle.meaning.specs.declared.types.Val.TheVariants.{Const, Label}
use Rattle.meaning.specs.declared.types.Rule.{Rule}
use Rattle.meaning.specs.declared.types.Ground.{Ground}
use Rattle.meaning.specs.declared.types.Trigger.{Trigger}
use Rattle.meaning.specs.Added.{with_facts}
use Rattle.meaning.specs.Matching.{AreFacts, OccursIn, Extends, GroundsOf}
use Rattle.meaning.specs.Triggers.{bound, AreNumbered, State, assigned, ground, IsActive, fired, IsFiringRun}
use Rattle.meaning_laws.specs.Trims.{AreIn}

-- the next label after a firing: behind its labels, or the first of them
abbrev pub behind : Trigger → Rule → ℕ
behind trigger rule = trigger.fresh + (bound rule.head - bound rule.body)

abbrev pub again : Trigger → Rule → ℕ
again trigger rule = trigger.fresh

-- the state after a firing, with that next label
abbrev pub fired_to : (Trigger → Rule → ℕ) → State → Trigger → Rule → State
fired_to after state trigger rule = record {
  facts = with_facts state.facts (map (ground (assigned trigger)) rule.head);
  next = after trigger rule;
}

-- firings of active triggers lead from a state to another
abbrev pub IsActiveRun : (Trigger → Rule → ℕ) → List Rule → State → List Trigger → State → Type 0
IsActiveRun after rules state [] end = end ≡ state
IsActiveRun after rules state (trigger ∷ log) end =
    (rule : Rule) × IsActive rules state trigger rule
    × IsActiveRun after rules (fired_to after state trigger rule) log end

-- some assignment that extends this one makes the head facts
abbrev pub IsMetAt : List Ground → Rule → (ℕ → Val) → Type 0
IsMetAt facts rule a = (b : ℕ → Val) × Extends Const (GroundsOf facts) rule a b

pub met_grows : (facts larger : List Ground) (rule : Rule) (a : ℕ → Val) → AreIn facts larger → IsMetAt facts rule a → IsMetAt larger rule a
met_grows facts larger rule a within (b, ext) = (b, record { agrees = ext.agrees; head = λ atom c. within (ground b atom) (ext.head atom c) })

-- after a firing the rule is met at the trigger's assignment
fired_met : (state : State) (trigger : Trigger) (rule : Rule) → IsMetAt (fired state trigger rule).facts rule (assigned trigger)
fired_met state trigger rule = (
  assigned trigger,
  record {
    agrees = λ x occurs. refl;
    head = λ atom c. added_right state.facts (map (ground (assigned trigger)) rule.head) (ground (assigned trigger) atom) (contains_map (ground (assigned trigger)) rule.head atom c);
  },
)

-- the same values with other labels
abbrev labelled : Trigger → ℕ → Trigger
labelled c next = record { rule = c.rule; values = c.values; fresh = next }

-- the body's variables have the trigger's values, whatever the labels are
value_at : (trigger : Trigger) (x : ℕ) → x < length trigger.values → assigned trigger x ≡ slice_index_or trigger.values x (Label 0)
value_at trigger x l = joined_below (length trigger.values) (λ y. slice_index_or trigger.values y (Label 0)) (λ i. Label (trigger.fresh + i)) x l

alike : (c : Trigger) (next : ℕ) (rule : Rule) → length c.values ≡ bound rule.body → (x : ℕ) → OccursIn rule.body x → assigned (labelled c next) x ≡ assigned c x
alike c next rule long x occurs =
    let low : x < bound rule.body = occurs_below rule.body x occurs in
    let l : x < length c.values = omega arith in
    value_at (labelled c next) x l ∙ sym (value_at c x l)

-- with labels of their own they are a run of firings
pub active_fires : (rules : List Rule) (log : List Trigger) (state end : State) →
    IsActiveRun behind rules state log end → IsFiringRun rules state log end
active_fires rules [] state end run = run
active_fires rules (trigger ∷ log) state end (rule, active, more) =
    (rule, active.trigger_is, active_fires rules log (fired state trigger rule) end more)

module _ (after : Trigger → Rule → ℕ) (rules : List Rule) where
  pub active_on : (log rest : List Trigger) (state middle end : State) → IsActiveRun after rules state log middle → IsActiveRun after rules middle rest end → IsActiveRun after rules state (log ++ rest) end
  active_on [] rest state middle end e run = subst (λ s. IsActiveRun after rules s rest end) e run
  active_on (trigger ∷ log) rest state middle end (rule, active, more) run = (rule, active, active_on log rest (fired_to after state trigger rule) middle end more run)

  active_grows : (log : List Trigger) (state end : State) → IsActiveRun after rules state log end → AreIn state.facts end.facts
  active_grows [] state end e fact c = subst (λ (s : State). Contains s.facts fact) (sym e) c
  active_grows (trigger ∷ log) state end (rule, active, more) fact c =
      active_grows log (fired_to after state trigger rule) end more fact (added_left state.facts (map (ground (assigned trigger)) rule.head) fact c)

  -- a candidate that makes the body facts and is not met is active once it has the next labels
  is_active : (state : State) (c : Trigger) (rule : Rule) → slice_get rules c.rule ≡ Some rule → length c.values ≡ bound rule.body → AreFacts Const (GroundsOf state.facts) (assigned c) rule.body → (IsMetAt state.facts rule (assigned c) → ⊥) → IsActive rules state (labelled c state.next) rule
  is_active state c rule got long body unmet = record {
    trigger_is = record {
      numbered = got;
      width = long;
      fresh = omega arith;
      body = same_facts state.facts (assigned c) (assigned (labelled c state.next)) rule.body (λ x occurs. sym (alike c state.next rule long x occurs)) body;
    };
    next = refl;
    unmet = λ b ext. unmet (b, record { agrees = λ x occurs. ext.agrees x occurs ∙ alike c state.next rule long x occurs; head = ext.head });
  }

  -- the rule is met at the candidate's assignment in the end, if that made the body facts in the state
  abbrev IsSettled : State → State → Trigger → Type 0
  IsSettled state end c =
      (rule : Rule) → slice_get rules c.rule ≡ Some rule → length c.values ≡ bound rule.body → AreFacts Const (GroundsOf state.facts) (assigned c) rule.body → IsMetAt end.facts rule (assigned c)

module _ (after : Trigger → Rule → ℕ) (rules : List Rule) (numbered : AreNumbered rules) where
  -- at most one firing settles a candidate
  settle_rule : (state : State) (c : Trigger) (rule : Rule) → slice_get rules c.rule ≡ Some rule → (log : List Trigger) × (end : State) × IsActiveRun after rules state log end × (length c.values ≡ bound rule.body → AreFacts Const (GroundsOf state.facts) (assigned c) rule.body → IsMetAt end.facts rule (assigned c))
  settle_rule state c rule got =
      elim (ℕ_discrete (length c.values) (bound rule.body)) [
        | no n ↦ ([], state, refl, (λ long body. absurd (n long)))
        | yes wide ↦ elim (dec_facts state.facts (assigned c) rule.body) [
          | no n ↦ ([], state, refl, (λ long body. absurd (n body)))
          | yes are ↦ elim (dec_extends state.facts rule (numbered rule (contains_got rules c.rule rule got)) (assigned c)) [
            | yes met ↦ ([], state, refl, (λ long body. met))
            | no n ↦ (
              labelled c state.next ∷ [],
              fired_to after state (labelled c state.next) rule,
              (rule, is_active after rules state c rule got wide are n, refl),
              (λ long body. let (b, ext) = fired_met state (labelled c state.next) rule in (b, record { agrees = λ x occurs. ext.agrees x occurs ∙ alike c state.next rule wide x occurs; head = ext.head })),
            )
          ]
        ]
      ]

  settle : (state : State) (c : Trigger) → (log : List Trigger) × (end : State) × IsActiveRun after rules state log end × IsSettled after rules state end c
  settle state c = by (slice_get rules c.rule) refl
    where
      by : (found : Option Rule) → slice_get rules c.rule ≡ found → (log : List Trigger) × (end : State) × IsActiveRun after rules state log end × IsSettled after rules state end c
      by None e = ([], state, refl, (λ rule got long body. let clash : None ≡ Some rule = sym e ∙ got in absurd (cc)))
      by (Some rule) e =
          let (log, end, run, met) = settle_rule state c rule e in (
            log,
            end,
            run,
            (λ other got long body.
                let same : rule ≡ other = some_injective rule other (sym e ∙ got) in
                subst (λ (r : Rule). IsMetAt end.facts r (assigned c)) same (met (long ∙ ap (λ (r : Rule). bound r.body) (sym same)) (subst (λ (r : Rule). AreFacts Const (GroundsOf state.facts) (assigned c) r.body) (sym same) body))),
          )

  settle_all : (cs : List Trigger) (state : State) → (log : List Trigger) × (end : State) × IsActiveRun after rules state log end × ((c : Trigger) → Contains cs c → IsSettled after rules state end c)
  settle_all [] state = ([], state, refl, (λ c among rule got long body. absurd (omega arith)))
  settle_all (first ∷ cs) state =
      let (log, middle, run, settled) = settle state first in
      let (rest, end, more, all) = settle_all cs middle in (
        log ++ rest,
        end,
        active_on after rules log rest state middle end run more,
        (λ c among rule got long body. ⊎_elim
            (λ same. met_grows middle.facts end.facts rule (assigned c) (active_grows after rules rest middle end more) (subst (λ d. IsSettled after rules state middle d) same settled rule got long body))
            (λ later. all c later rule got long (λ atom d. active_grows after rules log state middle run (ground (assigned c) atom) (body atom d))) (contains_cases first cs c among)),
      )

  -- a round leaves each match that there was before it met
  pub round : (state : State) → (log : List Trigger) × (end : State) × IsActiveRun after rules state log end
      × ((rule : Rule) (a : ℕ → Val) → Contains rules rule → AreFacts Const (GroundsOf state.facts) a rule.body → IsMetAt end.facts rule a)
  round state =
      let (log, end, run, settled) = settle_all (candidates rules state.facts) state in (
        log,
        end,
        run,
        (λ rule a of_rules body.
            let got : slice_get rules of_rules.0 ≡ Some rule = slice_get-get_or rules of_rules.0 rule of_rules.1 ∙ ap Some of_rules.2 in
            let (c, among, same, long, values) = candidate_of rules state.facts of_rules.0 rule a (numbered rule of_rules) got body in
            let (b, ext) = settled c among rule (ap (slice_get rules) same ∙ got) long (same_facts state.facts a (assigned c) rule.body (λ x occurs. sym (values x (occurs_below rule.body x occurs))) body) in
            (b, record { agrees = λ x occurs. ext.agrees x occurs ∙ values x (occurs_below rule.body x occurs); head = ext.head })),
      )
