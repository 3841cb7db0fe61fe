-- Why one pass in the rule order leaves nothing active: a rule that was gone through stays met, since no later rule
-- feeds it; and the matches of a rule's body, taken before its firings, are all that there are after them, since it does
-- not feed itself. Of those that agree at the frontier one is taken.
use Rattle.std.proofs.Common.{◌≡◌, ℕ, ◌+◌, ◌*◌, ◌<◌, ◌≤◌, List, [], ◌∷◌, ◌++◌, length, max, append_assoc, Some, refl, sym, ap, ◌∙◌, subst, ⊎_elim, arith, Contains, map, take, slice_get, slice_index_or}
use Rattle.std.proofs.lemmas.List.{take_more, append-nil}
use Rattle.std.proofs.lemmas.List.Elements.{Contains-append_left, Contains-append_right, Contains-push, Contains-push_cases}
use Rattle.std.proofs.lemmas.Option.{slice_get-get_or}
use Rattle.lists.proofs.Members.{contains_here, contains_map, contains_mapped, contains_got, some_injective}
use Rattle.meaning.specs.declared.types.Val.{Val}
use Rattle.meaning.specs.declared.types.Val.TheVariants.{Const, Label}
use Rattle.meaning.specs.declared.types.Ground.{Ground}
use Rattle.meaning.specs.declared.types.Rule.{Rule}
use Rattle.meaning.specs.declared.types.Trigger.{Trigger}
use Rattle.meaning.specs.Matching.{OccursIn, AreFacts, Extends, GroundsOf, MeetsRule, MeetsAll}
use Rattle.meaning.specs.Added.{with_facts}
use Rattle.meaning.specs.Triggers.{State, ground, bound, assigned, fired, IsActive, IsQuiet}
use Rattle.meaning.specs.RuleOrder.{StandsBefore}
use Rattle.meaning.specs.Runs.{IsFirstActive, IsBaseRun}
use Rattle.meaning_laws.proofs.Joined.{joined_below}
use Rattle.meaning_laws.proofs.Added.{added_left, added_right, added_cases}
use Rattle.meaning_laws.proofs.Carrying.{occurs_below}
use Rattle.meaning_laws.proofs.Deciding.{same_facts}
use Rattle.homomorphism.specs.declared.assignment.Assignment.{Assignment}
use Rattle.homomorphism.specs.Bindings.{at}
use Rattle.homomorphism.specs.Rules.{IsMet, IsUnmet, IsUnmetMatch}
use Rattle.homomorphism.specs.Frontier.{StandForAll}
use Rattle.access_schema.specs.declared.limits.TheConstants.{MOST_VARIABLES}
use Rattle.rule_pass.specs.Orderly.{AreOrderly}
use Rattle.rule_pass.specs.Order.{IsRuleOrder}
use Rattle.rule_pass.specs.States.{IsPass, Goes}
use Rattle.rule_pass.specs.Passing.{AreMet}
use Rattle.rule_pass.proofs.Ordered.{FeedsNot, stands_earlier, feeds_no_earlier, order_below}

-- what a firing adds
abbrev made : Trigger → Rule → List Ground
made trigger rule = map (ground (assigned trigger)) rule.head

-- a body that the rule does not feed is matched after the firing only where it was before
pull : (facts : List Ground) (trigger : Trigger) (rule other : Rule) (a : ℕ → Val) → FeedsNot rule other → AreFacts Const (GroundsOf (with_facts facts (made trigger rule))) a other.body → AreFacts Const (GroundsOf facts) a other.body
pull facts trigger rule other a not are atom among =
    ⊎_elim (λ h. h) (λ h. let (head, in_head, e) = contains_mapped (ground (assigned trigger)) rule.head (ground a atom) h in absurd (not head atom in_head among (ap (λ (f : Ground). f.rel) e)))
    (added_cases facts (made trigger rule) (ground a atom) (are atom among))

-- a rule that is met and not fed stays met
met_stays : (facts : List Ground) (trigger : Trigger) (rule other : Rule) → FeedsNot rule other → MeetsRule Const (GroundsOf facts) other → MeetsRule Const (GroundsOf (with_facts facts (made trigger rule))) other
met_stays facts trigger rule other not meets a body =
    let (b, ext) = meets a (pull facts trigger rule other a not body) in
    (b, record { agrees = ext.agrees; head = λ atom c. added_left facts (made trigger rule) (ground b atom) (ext.head atom c) })

is_met_stays : (facts news : List Ground) (rule : Rule) (values : List Val) → IsMet facts rule values → IsMet (with_facts facts news) rule values
is_met_stays facts news rule values (b, ext) = (b, record { agrees = ext.agrees; head = λ atom c. added_left facts news (ground b atom) (ext.head atom c) })

-- the assignment of a trigger is its values on the body
values_first : (trigger : Trigger) (rule : Rule) → length trigger.values ≡ bound rule.body → (x : ℕ) → OccursIn rule.body x → assigned trigger x ≡ at trigger.values x
values_first trigger rule width x occurs = joined_below (length trigger.values) (λ y. slice_index_or trigger.values y (Label 0)) (λ i. Label (trigger.fresh + i)) x (let l = occurs_below rule.body x occurs in omega arith)

-- after the firing its own match is met
fired_met : (facts : List Ground) (trigger : Trigger) (rule : Rule) → length trigger.values ≡ bound rule.body → IsMet (with_facts facts (made trigger rule)) rule trigger.values
fired_met facts trigger rule width = (
  assigned trigger,
  record {
    agrees = λ x occurs. values_first trigger rule width x occurs;
    head = λ atom c. added_right facts (made trigger rule) (ground (assigned trigger) atom) (contains_map (ground (assigned trigger)) rule.head atom c);
  },
)

-- one pass after another
pass_on : {L : Type 0} (logged : L → Trigger → ℕ → L) (rules : List Rule) (first middle end : State) (before log after : L) (more rest : List Trigger) → IsPass logged rules first before more middle log → IsPass logged rules middle log rest end after → IsPass logged rules first before (more ++ rest) end after
pass_on logged rules first middle end before log after [] rest (e, e') pass = subst (λ s. IsPass logged rules s before rest end after) e (subst (λ l. IsPass logged rules middle l rest end after) e' pass)
pass_on logged rules first middle end before log after (trigger ∷ more) rest (rule, is, one) pass = (rule, is, pass_on logged rules (fired first trigger rule) middle end (logged before trigger (length first.facts)) log after more rest one pass)

pub goes_on : {L : Type 0} (logged : L → Trigger → ℕ → L) (rules : List Rule) (first middle end : State) (before log after : L) → Goes logged rules first before middle log → Goes logged rules middle log end after → Goes logged rules first before end after
goes_on logged rules first middle end before log after (more, one) (rest, two) = (more ++ rest, pass_on logged rules first middle end before log after more rest one two)

-- a pass that appends its triggers to a list is a base run
pub pass_run : (rules : List Rule) (first now : State) (before log more : List Trigger) → IsPass (λ l t n. l ++ t ∷ []) rules first before more now log → IsBaseRun rules first more now × (log ≡ before ++ more)
pass_run rules first now before log [] (e, e') = (e, e' ∙ sym (append-nil before))
pass_run rules first now before log (trigger ∷ more) (rule, is, pass) =
    let (run, e) = pass_run rules (fired first trigger rule) now (before ++ trigger ∷ []) log more pass in
    ((rule, is, run), e ∙ append_assoc before (trigger ∷ []) more)

pub goes_run : (rules : List Rule) (first now : State) (before log : List Trigger) → before ≡ [] → Goes (λ l t n. l ++ t ∷ []) rules first before now log → IsBaseRun rules first log now
goes_run rules first now before log e (more, pass) =
    let (run, is) = pass_run rules first now before log more pass in
    subst (λ l. IsBaseRun rules first l now) (sym (is ∙ ap (λ l. l ++ more) e)) run

-- rules that are met have no active trigger
met_inactive : (rules : List Rule) (now : State) (other : Trigger) (its : Rule) → MeetsRule Const (GroundsOf now.facts) its → IsActive rules now other its → ⊥
met_inactive rules now other its meets active = let (b, ext) = meets (assigned other) active.trigger_is.body in active.unmet b ext

pub met_quiet : (rules : List Rule) (now : State) → MeetsAll Const (GroundsOf now.facts) rules → IsQuiet rules now
met_quiet rules now meets trigger rule active = met_inactive rules now trigger rule (meets rule (contains_got rules trigger.rule rule active.trigger_is.numbered)) active

-- an unmet match of a rule, where all that stand before are met, is the first active trigger
first_active : (rules : List Rule) (now : State) (trigger : Trigger) (rule : Rule) → slice_get rules trigger.rule ≡ Some rule → length trigger.values ≡ bound rule.body → trigger.fresh ≡ now.next →
    AreFacts Const (GroundsOf now.facts) (at trigger.values) rule.body → IsUnmet now.facts rule trigger.values →
    ((j : ℕ) (other : Rule) → StandsBefore rules j trigger.rule → slice_get rules j ≡ Some other → MeetsRule Const (GroundsOf now.facts) other) →
    IsFirstActive rules now trigger rule
first_active rules now trigger rule numbered width next body unmet before = record {
  active = record {
    trigger_is = record {
      numbered = numbered;
      width = width;
      fresh = subst (λ n. now.next ≤ n) (sym next) (omega arith);
      body = same_facts now.facts (at trigger.values) (assigned trigger) rule.body (λ x occurs. sym (values_first trigger rule width x occurs)) body;
    };
    next = next;
    unmet = λ b ext. unmet b (record { agrees = λ x occurs. ext.agrees x occurs ∙ values_first trigger rule width x occurs; head = ext.head });
  };
  first = λ other its active stands. met_inactive rules now other its (before other.rule its stands active.trigger_is.numbered) active;
}

-- the trigger of an unmet match of the rule at a place of the order
pub unmet_first : (rules : List Rule) (order : List ℕ) (k : ℕ) (rule : Rule) (now : State) (values : List Val) (fresh : ℕ) → IsRuleOrder rules order → k < length order →
    slice_get rules (slice_index_or order k 0) ≡ Some rule → AreMet rules now.facts (take k order) → IsUnmetMatch now.facts rule values → fresh ≡ now.next →
    IsFirstActive rules now (record { rule = slice_index_or order k 0; values = values; fresh = fresh }) rule
unmet_first rules order k rule now values fresh ordered l numbered before u next =
    first_active rules now (record { rule = slice_index_or order k 0; values = values; fresh = fresh }) rule numbered u.width next u.body u.unmet
    (λ j other stands e. before j other (stands_earlier rules order ordered k (slice_index_or order k 0) j l refl stands) e)

-- what holds after some of the matches of the rule at place k of the order
pub record Passing {L : Type 0} (logged : L → Trigger → ℕ → L) (size : L → ℕ) (rules : List Rule) (order : List ℕ) (first : State) (begun : L) (k budget : ℕ) (rule : Rule) (found done : List Assignment) (log : L) (now : State) : Type 0 where
  pub goes : Goes logged rules first begun now log
  pub before : AreMet rules now.facts (take k order)
  pub width : (m : Assignment) → Contains found m → length m.vals ≡ bound rule.body
  pub each : (m : Assignment) → Contains found m → AreFacts Const (GroundsOf now.facts) (at m.vals) rule.body
  pub all : (later : List Ground) → ((m : Assignment) → Contains found m → IsMet later rule m.vals) →
      (a : ℕ → Val) → AreFacts Const (GroundsOf now.facts) a rule.body → (b : ℕ → Val) × Extends Const (GroundsOf later) rule a b
  pub met : (m : Assignment) → Contains done m → IsMet now.facts rule m.vals
  pub budget_kept : size log ≤ max (size begun) budget
  pub labels_kept : now.next + size begun * MOST_VARIABLES ≤ first.next + size log * MOST_VARIABLES

pub passing_start : {L : Type 0} (logged : L → Trigger → ℕ → L) (size : L → ℕ) (rules : List Rule) (order : List ℕ) (first : State) (begun : L) (k budget : ℕ) (rule : Rule) (found : List Assignment) →
    AreMet rules first.facts (take k order) → StandForAll first.facts rule found → Passing logged size rules order first begun k budget rule found [] begun first
passing_start logged size rules order first begun k budget rule found m b = record {
  goes = ([], (refl, refl));
  before = m;
  width = b.width;
  each = b.each;
  all = b.all;
  met = λ one c. absurd (omega arith);
  budget_kept = omega arith;
  labels_kept = omega arith;
}

-- a match that is met is passed over
pub passing_met : {L : Type 0} (logged : L → Trigger → ℕ → L) (size : L → ℕ) (rules : List Rule) (order : List ℕ) (first : State) (begun : L) (k budget : ℕ) (rule : Rule) (found done : List Assignment) (one : Assignment) (log : L) (now : State) →
    Passing logged size rules order first begun k budget rule found done log now → IsMet now.facts rule one.vals → Passing logged size rules order first begun k budget rule found (done ++ one ∷ []) log now
passing_met logged size rules order first begun k budget rule found done one log now p m = record {
  goes = p.goes;
  before = p.before;
  width = p.width;
  each = p.each;
  all = p.all;
  met = λ other c. ⊎_elim (λ h. p.met other h) (λ e. subst (λ (x : Assignment). IsMet now.facts rule x.vals) e m) (Contains-push_cases done one other c);
  budget_kept = p.budget_kept;
  labels_kept = p.labels_kept;
}

module _ {L : Type 0} (logged : L → Trigger → ℕ → L) (size : L → ℕ) (grows : (log : L) (trigger : Trigger) (facts : ℕ) → size (logged log trigger facts) ≡ size log + 1) (rules : List Rule) (order : List ℕ) (first : State) (begun : L) (k budget : ℕ) (rule : Rule) (found done : List Assignment) (log : L) (now : State) (one : Assignment) (fresh : ℕ)
    (orderly : AreOrderly rules) (ordered : IsRuleOrder rules order) (l : k < length order) (numbered : slice_get rules (slice_index_or order k 0) ≡ Some rule)
    (p : Passing logged size rules order first begun k budget rule found done log now) (among : Contains found one) (next : fresh ≡ now.next) (unmet : IsUnmet now.facts rule one.vals) where
  abbrev plain : Trigger
  plain = record { rule = slice_index_or order k 0; values = one.vals; fresh = fresh }

  pub passing_first : IsFirstActive rules now plain rule
  passing_first = unmet_first rules order k rule now one.vals fresh ordered l numbered p.before (record { width = p.width one among; body = p.each one among; unmet = unmet }) next

  pub passing_room : (other : Rule) → slice_get rules (slice_index_or order k 0) ≡ Some other → size log < budget → budget ≤ 100000 → first.next ≤ 1048576 + size begun * MOST_VARIABLES → (fired now plain other).next < 4294967296
  passing_room other got spare few low =
      let small = orderly.variables other (contains_got rules (slice_index_or order k 0) other got) in
      let same = next in
      let b = p.labels_kept in omega arith

  pub passing_fired : (after : State) → size log < budget → after ≡ fired now plain rule → Passing logged size rules order first begun k budget rule found (done ++ one ∷ []) (logged log plain (length now.facts)) after
  passing_fired after spare e =
      subst (λ s. Passing logged size rules order first begun k budget rule found (done ++ one ∷ []) (logged log plain (length now.facts)) s) (sym e) (record {
        goes = goes_on logged rules first now (fired now plain rule) begun log (logged log plain (length now.facts)) p.goes (plain ∷ [], (rule, passing_first, (refl, refl)));
        before = λ j other c e. met_stays now.facts plain rule other (feeds_no_earlier rules order ordered k (slice_index_or order k 0) j rule other l refl (earlier j c) numbered e) (p.before j other c e);
        width = p.width;
        each = λ m c atom d. added_left now.facts (made plain rule) (ground (at m.vals) atom) (p.each m c atom d);
        all = λ later met a are. p.all later met a (pull now.facts plain rule rule a (feeds_no_earlier rules order ordered k (slice_index_or order k 0) (slice_index_or order k 0) rule rule l refl self numbered numbered) are);
        met = λ m c. ⊎_elim (λ h. is_met_stays now.facts (made plain rule) rule m.vals (p.met m h))
            (λ e. subst (λ (x : Assignment). IsMet (with_facts now.facts (made plain rule)) rule x.vals) e (fired_met now.facts plain rule (p.width one among))) (Contains-push_cases done one m c);
        budget_kept = let n = grows log plain (length now.facts) in omega arith;
        labels_kept =
            let n = grows log plain (length now.facts) in let b = p.labels_kept in let small = orderly.variables rule (contains_got rules (slice_index_or order k 0) rule numbered) in omega arith;
      })
    where
      earlier : (j : ℕ) → Contains (take k order) j → Contains (take (k + 1) order) j
      earlier j c = subst (λ z. Contains z j) (sym (take_more order k 0 l)) (Contains-append_left (take k order) (slice_index_or order k 0 ∷ []) j c)

      self : Contains (take (k + 1) order) (slice_index_or order k 0)
      self = subst (λ z. Contains z (slice_index_or order k 0)) (sym (take_more order k 0 l)) (Contains-push (take k order) (slice_index_or order k 0))

-- what holds after some of the matches that a walk goes through, of which others are left
pub record IsPassing {L : Type 0} (logged : L → Trigger → ℕ → L) (size : L → ℕ) (rules : List Rule) (order : List ℕ) (first : State) (begun : L) (k budget : ℕ) (rule : Rule) (left : List Assignment) (log : L) (now : State) : Type 0 where
  pub found : List Assignment
  pub done : List Assignment
  pub whole : found ≡ done ++ left
  pub passing : Passing logged size rules order first begun k budget rule found done log now

pub passing_begin : {L : Type 0} (logged : L → Trigger → ℕ → L) (size : L → ℕ) (rules : List Rule) (order : List ℕ) (first : State) (begun : L) (k budget : ℕ) (rule : Rule) (left : List Assignment) →
    AreMet rules first.facts (take k order) → StandForAll first.facts rule left → IsPassing logged size rules order first begun k budget rule left begun first
passing_begin logged size rules order first begun k budget rule left m b = record {
  found = left;
  done = [];
  whole = refl;
  passing = passing_start logged size rules order first begun k budget rule left m b;
}

module _ {L : Type 0} (logged : L → Trigger → ℕ → L) (size : L → ℕ) (rules : List Rule) (order : List ℕ) (first : State) (begun : L) (k budget : ℕ) (rule : Rule) (left : List Assignment) (log : L) (now : State) (w : IsPassing logged size rules order first begun k budget rule left log now) where
  pub passing_among : (one : Assignment) (more : List Assignment) → left ≡ one ∷ more → Contains w.found one
  passing_among one more e = subst (λ z. Contains z one) (sym (w.whole ∙ ap (λ z. w.done ++ z) e)) (Contains-append_right w.done (one ∷ more) one (contains_here one more))

  -- one match more is done
  pub passing_next : (one : Assignment) (more : List Assignment) (others : L) (then_ : State) → left ≡ one ∷ more → Passing logged size rules order first begun k budget rule w.found (w.done ++ one ∷ []) others then_ →
      IsPassing logged size rules order first begun k budget rule more others then_
  passing_next one more others then_ e p = record {
    found = w.found;
    done = w.done ++ one ∷ [];
    whole = w.whole ∙ ap (λ z. w.done ++ z) e ∙ sym (append_assoc w.done (one ∷ []) more);
    passing = p;
  }

  pub passing_end : left ≡ [] → Passing logged size rules order first begun k budget rule w.found w.found log now
  passing_end e = subst (λ done. Passing logged size rules order first begun k budget rule w.found done log now) (sym (w.whole ∙ ap (λ z. w.done ++ z) e ∙ append-nil w.done)) w.passing

-- after all matches the rule is met
pub passing_all : {L : Type 0} (logged : L → Trigger → ℕ → L) (size : L → ℕ) (rules : List Rule) (order : List ℕ) (first : State) (begun : L) (k budget : ℕ) (rule : Rule) (found : List Assignment) (log : L) (now : State) →
    Passing logged size rules order first begun k budget rule found found log now → MeetsRule Const (GroundsOf now.facts) rule
passing_all logged size rules order first begun k budget rule found log now p a body = p.all now.facts p.met a body

-- one rule more of the order is met
pub met_more : (rules : List Rule) (order : List ℕ) (facts : List Ground) (k : ℕ) (rule : Rule) → k < length order → slice_get rules (slice_index_or order k 0) ≡ Some rule →
    AreMet rules facts (take k order) → MeetsRule Const (GroundsOf facts) rule → AreMet rules facts (take (k + 1) order)
met_more rules order facts k rule l numbered before now j other c e =
    ⊎_elim (λ h. before j other h e) (λ same. subst (MeetsRule Const (GroundsOf facts)) (some_injective rule other (sym numbered ∙ ap (slice_get rules) same ∙ e)) now)
    (Contains-push_cases (take k order) (slice_index_or order k 0) j (subst (λ z. Contains z j) (take_more order k 0 l) c))

-- where all rules of the order are met, the facts meet the rules
pub met_all : (rules : List Rule) (order : List ℕ) (facts : List Ground) → IsRuleOrder rules order → AreMet rules facts order → MeetsAll Const (GroundsOf facts) rules
met_all rules order facts ordered met rule (i, l, e) = met i rule (ordered.each i l) (slice_get-get_or rules i rule l ∙ ap Some e)

pub numbered_at : (rules : List Rule) (number : ℕ) (rule : Rule) → number < length rules → rule ≡ slice_index_or rules number rule → slice_get rules number ≡ Some rule
numbered_at rules number rule l e = slice_get-get_or rules number rule l ∙ ap Some (sym e)

-- the rule whose number stands at a place of the order
pub rule_at : (rules : List Rule) (order : List ℕ) (k : ℕ) (rule : Rule) → IsRuleOrder rules order → k < length order → rule ≡ slice_index_or rules (slice_index_or order k 0) rule → slice_get rules (slice_index_or order k 0) ≡ Some rule
rule_at rules order k rule ordered l is = numbered_at rules (slice_index_or order k 0) rule (order_below rules order k ordered l) is
