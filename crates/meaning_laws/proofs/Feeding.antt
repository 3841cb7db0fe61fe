-- The rule order on two rules, of which the second feeds the first.
use Rattle.std.proofs.Common.{◌≡◌, ℕ, zero, suc, ◌<◌, ◌≤◌, List, [], ◌∷◌, Some, refl, sym, ap, ◌∙◌, subst, inl, ⊎_elim, arith}
use Rattle.std.specs.Prelude.{Contains, slice_get}
use Rattle.lists.proofs.Members.{contains_here, contains_cases, some_injective, contains_one}
use Rattle.meaning.specs.declared.types.Atom.{Atom}
use Rattle.meaning.specs.declared.types.Rule.{Rule}
use Rattle.meaning.specs.declared.types.Val.{Val}
use Rattle.meaning.specs.declared.types.Val.TheVariants.{Label}
use Rattle.meaning.specs.declared.types.Ground.{Ground}
use Rattle.meaning.specs.Triggers.{State, assigned, ground, IsActive}
use Rattle.meaning.specs.RuleOrder.{IsFed, IsLevel, IsRuleLevel, StandsBefore}
use Rattle.meaning.specs.Runs.{IsBaseRun}
use Rattle.meaning_laws.specs.Small.{r_atom, s_atom, t_atom, r_to_s, s_to_t, fed_first, r_fact, r_one, s_one, both_active, t_trigger, s_trigger, fed}

abbrev r_rule : Rule
r_rule = record r_to_s { line = 5 }

rules_are : (P : Rule → Type 0) → P s_to_t → P r_rule → (rule : Rule) → Contains fed_first rule → P rule
rules_are P p q rule c = ⊎_elim (λ e. subst P e p) (λ c. subst P (contains_one r_rule rule c) q) (contains_cases s_to_t (r_rule ∷ []) rule c)

-- no rule feeds r, and only r(x) -> s(x) feeds s
r_is_not_fed : (n : ℕ) → IsFed fed_first 0 n → n ≤ 0
r_is_not_fed zero fed = omega arith
r_is_not_fed (suc n) (source, feeds, more) = absurd (rules_are (λ r. Contains r.head feeds.head → ⊥) (λ c. clash t_atom c (λ e. two e)) (λ c. clash s_atom c (λ e. one e)) feeds.rule feeds.of_rules feeds.in_head)
  where
    clash : (atom : Atom) → Contains (atom ∷ []) feeds.head → (atom.rel ≡ 0 → ⊥) → ⊥
    clash atom c differ = differ (ap (λ (a : Atom). a.rel) (contains_one atom feeds.head c) ∙ feeds.makes)

    two : ◌≡◌ {A = ℕ} 2 0 → ⊥
    two e = omega arith

    one : ◌≡◌ {A = ℕ} 1 0 → ⊥
    one e = omega arith

s_is_fed_once : (n : ℕ) → IsFed fed_first 1 n → n ≤ 1
s_is_fed_once zero fed = omega arith
s_is_fed_once (suc n) (source, feeds, more) =
    let low : n ≤ 0 = rules_are (λ r. Contains r.body feeds.body → Contains r.head feeds.head → n ≤ 0)
    (λ b c. absurd (two (ap (λ (a : Atom). a.rel) (contains_one t_atom feeds.head c) ∙ feeds.makes)))
    (λ b c. r_is_not_fed n (subst (λ m. IsFed fed_first m n) (sym (ap (λ (a : Atom). a.rel) (contains_one r_atom feeds.body b) ∙ feeds.reads)) more)) feeds.rule feeds.of_rules feeds.in_body feeds.in_head in
    omega arith
  where
    two : ◌≡◌ {A = ℕ} 2 1 → ⊥
    two e = omega arith

r_level : IsLevel fed_first 0 0
r_level = record { reached = tt; greatest = r_is_not_fed }

s_level : IsLevel fed_first 1 1
s_level = record { reached = (0, record { rule = r_rule; body = r_atom; head = s_atom; of_rules = (1, omega arith, refl); in_body = contains_here r_atom []; in_head = contains_here s_atom []; reads = refl; makes = refl }, tt); greatest = s_is_fed_once }

r_rule_level : IsRuleLevel fed_first r_rule 0
r_rule_level = record {
  reached = (r_atom, contains_here r_atom [], r_level);
  greatest = λ atom n c level. r_is_not_fed n (subst (λ m. IsFed fed_first m n) (sym (ap (λ (a : Atom). a.rel) (contains_one r_atom atom c))) level.reached);
}

s_rule_level : IsRuleLevel fed_first s_to_t 1
s_rule_level = record {
  reached = (s_atom, (1, omega arith, refl), s_level);
  greatest = λ atom n c level. ⊎_elim (λ e. let none : n ≤ 0 = r_is_not_fed n (subst (λ m. IsFed fed_first m n) (sym (ap (λ (a : Atom). a.rel) e)) level.reached) in omega arith)
      (λ c. s_is_fed_once n (subst (λ m. IsFed fed_first m n) (sym (ap (λ (a : Atom). a.rel) (contains_one s_atom atom c))) level.reached)) (contains_cases r_atom (s_atom ∷ []) atom c);
}

feeder_stands_before : StandsBefore fed_first 1 0
feeder_stands_before = record {
  first = r_rule;
  second = s_to_t;
  low = 0;
  high = 1;
  first_is = refl;
  second_is = refl;
  first_level = r_rule_level;
  second_level = s_rule_level;
  before = inl (omega arith);
}

facts_are : (P : Ground → Type 0) → P r_fact → P r_one → P s_one → (f : Ground) → Contains both_active.facts f → P f
facts_are P p q r f c = ⊎_elim (λ e. subst P e p) (λ c. ⊎_elim (λ e. subst P e q) (λ c. subst P (contains_one s_one f c) r) (contains_cases r_one (s_one ∷ []) f c)) (contains_cases r_fact (r_one ∷ s_one ∷ []) f c)

-- the trigger of r(x) -> s(x) is active, since s(#0) is not there
s_active : IsActive fed_first both_active s_trigger r_rule
s_active = record {
  trigger_is = record { numbered = refl; width = refl; fresh = omega arith; body = λ atom c. subst (λ (a : Atom). Contains both_active.facts (ground (assigned s_trigger) a)) (contains_one r_atom atom c) (0, omega arith, refl) };
  next = refl;
  unmet = λ b ext. let agrees : b 0 ≡ Label 0 = ext.agrees 0 (r_atom, contains_here r_atom [], (0, omega arith, refl)) in
      facts_are (λ f. f ≡ record { rel = 1; vals = b 0 ∷ [] } → ⊥) (λ e. zero_one (ap (λ (f : Ground). f.rel) e)) (λ e. zero_one (ap (λ (f : Ground). f.rel) e))
      (λ e. let same : Label 1 ≡ b 0 = ap (λ (f : Ground). first_of f.vals) e in labels (same ∙ agrees)) (record { rel = 1; vals = b 0 ∷ [] }) (ext.head s_atom (contains_here s_atom [])) refl;
}
  where
    first_of : List Val → Val
    first_of [] = Label 0
    first_of (v ∷ vals) = v

    zero_one : ◌≡◌ {A = ℕ} 0 1 → ⊥
    zero_one e = omega arith

    labels : Label 1 ≡ Label 0 → ⊥
    labels e = let same : ◌≡◌ {A = ℕ} 1 0 = cc in omega arith

-- nothing stands before the rule that feeds
none_before : (i : ℕ) → StandsBefore fed_first i 1 → ⊥
none_before i stands =
    let second : r_rule ≡ stands.second = some_injective r_rule stands.second stands.second_is in
    let (atom, among, level) = stands.second_level.reached in
    let in_body : Contains r_rule.body atom = subst (λ (r : Rule). Contains r.body atom) (sym second) among in
    let low : stands.high ≤ 0 = r_is_not_fed stands.high (subst (λ m. IsFed fed_first m stands.high) (sym (ap (λ (a : Atom). a.rel) (contains_one r_atom atom in_body))) level.reached) in
    ⊎_elim (λ less. omega arith) (λ (same, less). before i less stands.first_is (λ e. high_first stands.first e stands.low stands.first_level same low)) stands.before
  where
    high_first : (first : Rule) → s_to_t ≡ first → (level : ℕ) → IsRuleLevel fed_first first level → level ≡ stands.high → stands.high ≤ 0 → ⊥
    high_first first e level is same low = let top : 1 ≤ level = is.greatest s_atom 1 (subst (λ (r : Rule). Contains r.body s_atom) e (1, omega arith, refl)) s_level in omega arith

    before : (i : ℕ) → i < 1 → slice_get fed_first i ≡ Some stands.first → (s_to_t ≡ stands.first → ⊥) → ⊥
    before zero l e differ = differ (some_injective s_to_t stands.first e)
    before (suc i) l e differ = omega arith

-- a base run fires the rule that feeds first
pub feeder_fires_first : IsBaseRun fed_first both_active (s_trigger ∷ []) fed
feeder_fires_first = (r_rule, record { active = s_active; first = λ other its active before. none_before other.rule before }, refl)

-- and not the rule with the least number
pub fed_rule_waits : (end : State) → IsBaseRun fed_first both_active (t_trigger ∷ []) end → ⊥
fed_rule_waits end (rule, first, more) = first.first s_trigger r_rule s_active feeder_stands_before
