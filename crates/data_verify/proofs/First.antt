-- The first broken rule among some of the rules, one rule after another, and what no rule of a schema breaks.
use Rattle.std.proofs.Common.{◌≡◌, ◌↔◌, ℕ, ◌+◌, ◌<◌, ◌≤◌, List, length, slice_index_or, slice_get, Option, Some, None, Bool, sym, ap, ◌∙◌, subst, ⊎_elim, arith, true, false, refl}
use Rattle.std.specs.Prelude.{Contains, IfSome, IsNone}
use Rattle.std.proofs.lemmas.Bool.{cases_lt, true≢false}
use Rattle.std.proofs.lemmas.Option.{slice_get-get_or, slice_get_within}
use Rattle.lists.proofs.Members.{contains_got, some_injective}
use Rattle.meaning.specs.declared.types.Rule.{Rule}
use Rattle.meaning.specs.declared.types.Fact.{Fact}
use Rattle.meaning.specs.Matching.{MeetsRule, MeetsAll, itself, FactsOf}
use Rattle.data_verify.specs.declared.broken.Broken.{Broken}
use Rattle.data_verify.specs.Breaking.{IsFirstBroken, AreLeastBreaking}
use Rattle.data_verify.specs.Inclusion.{is_inclusion}
use Rattle.data_verify.specs.Finding.{IsRule, IsInclusion, IsOpen, AreMet, IsFirstOf, Finds}

module _ (rules items : List Rule) (n : ℕ) (rule : Rule) (same : items ≡ rules) (l : n < length items) (is : rule ≡ slice_index_or items n rule) where
  pub rule_at : slice_get rules n ≡ Some rule
  rule_at = subst (λ z. slice_get z n ≡ Some rule) same (slice_get-get_or items n rule l ∙ ap Some (sym is))

  pub rule_among : Contains rules rule
  rule_among = subst (λ z. Contains z rule) same (n, l, sym is)

  -- the rule, if another stands at its place
  pub one_at : (k : ℕ) (other : Rule) → n ≤ k → k < n + 1 → slice_get rules k ≡ Some other → (n ≡ k) × (rule ≡ other)
  unfolding rule_at
  one_at k other low less got =
      let here : n ≡ k = omega arith in
      (here, some_injective rule other (sym rule_at ∙ ap (slice_get rules) here ∙ got))

  module _ (P : ℕ → Rule → Type 0) (instance : List Fact) (before : AreMet P instance rules n) where
    pub met_more : (P n rule → MeetsRule itself (FactsOf instance) rule) → AreMet P instance rules (n + 1)
    unfolding one_at
    met_more now k other less got of = ⊎_elim (λ h. before k other h got of)
        (λ h. let (here, e) = one_at k other h less got in
        subst (MeetsRule itself (FactsOf instance)) e (now (subst (λ r. P n r) (sym e) (subst (λ m. P m other) (sym here) of)))) (cases_lt k n)

    pub first_of : (rows : List Fact) → P n rule → AreLeastBreaking instance rule rows → IsFirstOf P instance rules (record { rule = n; rows = rows })
    unfolding rule_at
    first_of rows of least = record {
      rule = rule;
      numbered = rule_at;
      is = of;
      before = before;
      least = least;
    }

pub met_all : (P : ℕ → Rule → Type 0) (instance : List Fact) (rules items : List Rule) (n : ℕ) → items ≡ rules → length items ≤ n → AreMet P instance rules n → AreMet P instance rules (length rules)
met_all P instance rules items n same l all k other less got of =
    let most : length rules ≤ n = subst (λ z. length z ≤ n) same l in
    all k other (omega arith) got of

-- a rule is open or none of those that were looked at
module _ (instance : List Fact) (rules : List Rule) where
  by_form : (rule : Rule) → (is_inclusion rule ≡ true → MeetsRule itself (FactsOf instance) rule) → (is_inclusion rule ≡ false → MeetsRule itself (FactsOf instance) rule) → MeetsRule itself (FactsOf instance) rule
  by_form rule first others = by (is_inclusion rule) refl
    where
      by : (b : Bool) → is_inclusion rule ≡ b → MeetsRule itself (FactsOf instance) rule
      by true e = first e
      by false e = others e

  pub no_open : (found : Option Broken) → ((k : ℕ) (rule : Rule) → slice_get rules k ≡ Some rule → IsOpen found k rule → ⊥) → Finds (IsOpen found) instance rules None
  no_open found none k other less got is = absurd (none k other got is)

  pub as_found : (found : Option Broken) → Finds IsInclusion instance rules found → Finds (IsOpen found) instance rules None → Finds IsRule instance rules found
  unfolding by_form
  as_found None first others = λ k other less got of. by_form other (λ e. first k other less got e) (λ e. others k other less got e)
  as_found (Some broken) first others = record {
    rule = first.rule;
    numbered = first.numbered;
    is = tt;
    before = λ k other less got of.
        let within = slice_get_within rules k other got in
        by_form other (λ e. first.before k other less got e) (λ e. others k other within got (e, less));
    least = first.least;
  }

  pub as_earlier : (found : Option Broken) (earlier : Broken) → Finds IsInclusion instance rules found → IsFirstOf (IsOpen found) instance rules earlier → IsFirstOf IsRule instance rules earlier
  unfolding by_form
  as_earlier None earlier first others = record {
    rule = others.rule;
    numbered = others.numbered;
    is = tt;
    before = λ k other less got of.
        let within = slice_get_within rules k other got in
        by_form other (λ e. first k other within got e) (λ e. others.before k other less got e);
    least = others.least;
  }
  as_earlier (Some broken) earlier first others = record {
    rule = others.rule;
    numbered = others.numbered;
    is = tt;
    before = λ k other less got of.
        let below : earlier.rule < broken.rule = others.is.1 in
        let lower : k < broken.rule = omega arith in
        by_form other (λ e. first.before k other lower got e) (λ e. others.before k other less got (e, lower));
    least = others.least;
  }

  not_met : (broken : Broken) → IsFirstOf IsRule instance rules broken → MeetsAll itself (FactsOf instance) rules → ⊥
  not_met broken first meets =
      let (a, br, e) = first.least.come in
      let (b, ext) = meets first.rule (contains_got rules broken.rule first.rule first.numbered) a br.body in
      br.unmet b ext

  pub met_told : (found : Option Broken) → Finds IsRule instance rules found → IsNone found ↔ MeetsAll itself (FactsOf instance) rules
  unfolding not_met
  met_told None all = ((λ e rule (k, less, same). all k rule less (slice_get-get_or rules k rule less ∙ ap Some same) tt), (λ m. refl))
  met_told (Some broken) first = ((λ e. absurd (true≢false e)), (λ meets. absurd (not_met broken first meets)))

  pub broken_told : (found : Option Broken) → Finds IsRule instance rules found → IfSome found (IsFirstBroken instance rules)
  broken_told None all = tt
  broken_told (Some broken) first = record {
    rule = first.rule;
    numbered = first.numbered;
    before = λ k other less got. first.before k other less got tt;
    least = first.least;
  }
