-- From each state some firings lead to one in which all rules are met, where chains of feeding are bounded. A round of
-- active firings after another makes rules met for good, level by level: once the rules that read relations of lower
-- levels are met, no firing makes facts of the relations that the next ones read, whatever the next label after it is.
use Rattle.std.proofs.Common.{◌≡◌, ℕ, zero, suc, ◌<◌, ◌≤◌, List, [], ◌∷◌, ◌++◌, refl, sym, ap, subst, ⊎_elim, arith}
use Rattle.std.specs.Prelude.{Contains, map}
use Rattle.lists.proofs.Members.{contains_got, contains_mapped}
use Rattle.meaning_laws.proofs.Added.{added_left, added_cases}
use Rattle.meaning_laws.proofs.ActiveRuns.{behind, fired_to, IsActiveRun, met_grows, active_fires, active_on, round}
use Rattle.meaning.specs.declared.types.Val.{Val}
use Rattle.meaning.specs.declared.types.Val.TheVariants.{Const}
use Rattle.meaning.specs.declared.types.Atom.{Atom}
use Rattle.meaning.specs.declared.types.Rule.{Rule}
use Rattle.meaning.specs.declared.types.Ground.{Ground}
use Rattle.meaning.specs.declared.types.Trigger.{Trigger}
use Rattle.meaning.specs.Matching.{AreFacts, MeetsRule, MeetsAll, GroundsOf}
use Rattle.meaning.specs.Triggers.{AreNumbered, State, assigned, ground, IsActive, IsQuiet, IsFiringRun}
use Rattle.meaning.specs.RuleOrder.{IsFed}

module _ (after : Trigger → Rule → ℕ) (rules : List Rule) where
  -- each chain of feeding that ends at the relation has fewer steps
  abbrev IsBelow : ℕ → ℕ → Type 0
  IsBelow n rel = (k : ℕ) → IsFed rules rel k → k < n

  -- so it is at each relation of the body
  abbrev ReadsBelow : ℕ → Rule → Type 0
  ReadsBelow n rule = (atom : Atom) → Contains rule.body atom → IsBelow n atom.rel

  -- the rules that read below some lower number are met
  abbrev AreMetBelow : ℕ → State → Type 0
  AreMetBelow n state = (rule : Rule) (k : ℕ) → Contains rules rule → k < n → ReadsBelow k rule → MeetsRule Const (GroundsOf state.facts) rule

  -- a rule that makes a relation reads below
  maker_reads_below : (n : ℕ) (rule : Rule) (head : Atom) → Contains rules rule → Contains rule.head head → IsBelow (suc n) head.rel → ReadsBelow n rule
  maker_reads_below n rule head of_rules in_head below atom in_body k fed =
      let up : suc k < suc n = below (suc k) (
        atom.rel,
        record { rule = rule; body = atom; head = head; of_rules = of_rules; in_body = in_body; in_head = in_head; reads = refl; makes = refl },
        fed,
      ) in
      omega arith

  module _ (n : ℕ) (state : State) (trigger : Trigger) (rule : Rule) (met : AreMetBelow n state) (active : IsActive rules state trigger rule) where
    -- an active firing makes no fact of a low relation, since the makers of that are met
    makes_none_below : (k : ℕ) (head : Atom) → k ≤ n → Contains rule.head head → IsBelow k head.rel → ⊥
    makes_none_below zero head low in_head below = let none : 0 < 0 = below zero tt in omega arith
    makes_none_below (suc k) head low in_head below =
        let of_rules = contains_got rules trigger.rule rule active.trigger_is.numbered in
        let (b, ext) = met rule k of_rules (omega arith) (maker_reads_below k rule head of_rules in_head below) (assigned trigger) active.trigger_is.body in
        active.unmet b ext

    -- so the body of a rule that reads low relations is matched only where it was before
    match_before : (k : ℕ) (other : Rule) (a : ℕ → Val) → k ≤ n → ReadsBelow k other → AreFacts Const (GroundsOf (fired_to after state trigger rule).facts) a other.body → AreFacts Const (GroundsOf state.facts) a other.body
    match_before k other a low reads body atom among =
        ⊎_elim (λ old. old)
        (λ new.
        let (head, in_head, e) = contains_mapped (ground (assigned trigger)) rule.head (ground a atom) new in
        let same : atom.rel ≡ head.rel = sym (ap (λ (f : Ground). f.rel) e) in
        absurd (makes_none_below k head low in_head (subst (λ r. IsBelow k r) same (reads atom among))))
        (added_cases state.facts (map (ground (assigned trigger)) rule.head) (ground a atom) (body atom among))

    met_after : AreMetBelow n (fired_to after state trigger rule)
    met_after other k of_rules low reads a body =
        met_grows state.facts (fired_to after state trigger rule).facts other a (λ fact c. added_left state.facts (map (ground (assigned trigger)) rule.head) fact c)
        (met other k of_rules low reads a (match_before k other a (omega arith) reads body))

  -- the same along a run
  match_was : (n : ℕ) (log : List Trigger) (state end : State) → AreMetBelow n state → IsActiveRun after rules state log end → (k : ℕ) (other : Rule) (a : ℕ → Val) → k ≤ n → ReadsBelow k other → AreFacts Const (GroundsOf end.facts) a other.body → AreFacts Const (GroundsOf state.facts) a other.body
  match_was n [] state end met e k other a low reads body = subst (λ (s : State). AreFacts Const (GroundsOf s.facts) a other.body) e body
  match_was n (trigger ∷ log) state end met (rule, active, more) k other a low reads body =
      match_before n state trigger rule met active k other a low reads (match_was n log (fired_to after state trigger rule) end (met_after n state trigger rule met active) more k other a low reads body)

  -- one round more, and the rules of one level more are met
  rounds : AreNumbered rules → (n : ℕ) (state : State) → (log : List Trigger) × (end : State) × IsActiveRun after rules state log end × AreMetBelow n end
  rounds numbered zero state = ([], state, refl, (λ rule k of_rules low reads a body. absurd (omega arith)))
  rounds numbered (suc n) state =
      let (log, middle, run, met) = rounds numbered n state in
      let (more, end, next, each) = round after rules numbered middle in (
        log ++ more,
        end,
        active_on after rules log more state middle end run next,
        (λ rule k of_rules low reads a body. each rule a of_rules (match_was n more middle end met next k rule a (omega arith) reads body)),
      )

  -- no chain of feeding is longer, so at last all rules are met
  pub all_are_met : (limit : ℕ) (state : State) → AreNumbered rules → ((rel n : ℕ) → IsFed rules rel n → n ≤ limit) →
      (log : List Trigger) × (end : State) × IsActiveRun after rules state log end × MeetsAll Const (GroundsOf end.facts) rules
  all_are_met limit state numbered short =
      let (log, end, run, met) = rounds numbered (suc (suc limit)) state in (
        log,
        end,
        run,
        (λ rule of_rules. met rule (suc limit) of_rules (omega arith)
            (λ atom c k fed. let top : k ≤ limit = short atom.rel k fed in omega arith)),
      )

-- where rules are met, no trigger is active, whatever the next label is
pub met_quiet : (rules : List Rule) (state : State) → MeetsAll Const (GroundsOf state.facts) rules → IsQuiet rules state
met_quiet rules state met trigger rule active =
    let of_rules = contains_got rules trigger.rule rule active.trigger_is.numbered in
    let (b, ext) = met rule of_rules (assigned trigger) active.trigger_is.body in
    active.unmet b ext

-- from each state some run of firings leads to a quiet one
pub quiet_is_reached : (rules : List Rule) (limit : ℕ) (state : State) → AreNumbered rules → ((rel n : ℕ) → IsFed rules rel n → n ≤ limit) → (log : List Trigger) × (end : State) × IsFiringRun rules state log end × IsQuiet rules end
quiet_is_reached rules limit state numbered short =
    let (log, end, run, met) = all_are_met behind rules limit state numbered short in
    (log, end, active_fires rules log state end run, met_quiet rules end met)
