-- What runs of firings keep: names, arities, and the facts that were there.
use Rattle.std.proofs.Common.{◌≡◌, ℕ, ◌+◌, ◌-◌, ◌<◌, ◌≤◌, List, [], ◌∷◌, length, sym, ap, ◌∙◌, subst, ⊎_elim, arith}
use Rattle.std.specs.Prelude.{Contains, map}
use Rattle.std.proofs.lemmas.Bool.{cases_lt}
use Rattle.std.proofs.lemmas.List.{length-map}
use Rattle.lists.proofs.Members.{contains_got, contains_map, contains_mapped}
use Rattle.meaning_laws.proofs.Added.{added_cases, added_left}
use Rattle.meaning_laws.proofs.Carrying.{occurs_below, fresh_is}
use Rattle.meaning.specs.declared.types.Term.{Term}
use Rattle.meaning.specs.declared.types.Term.TheVariants.{Var, Const as Said}
use Rattle.meaning.specs.declared.types.Val.{Val}
use Rattle.meaning.specs.declared.types.Val.TheVariants.{Const, Label}
use Rattle.meaning.specs.declared.types.Atom.{Atom}
use Rattle.meaning.specs.declared.types.Rule.{Rule}
use Rattle.meaning.specs.declared.types.Ground.{Ground}
use Rattle.meaning.specs.declared.types.SchemaParts.{SchemaParts}
use Rattle.meaning.specs.declared.types.Trigger.{Trigger}
use Rattle.meaning_laws.proofs.Fits.{fits_alike}
use Rattle.meaning.specs.Instances.{FitsRelation}
use Rattle.meaning.specs.Matching.{value_of}
use Rattle.meaning.specs.Triggers.{bound, IsNumbered, State, assigned, ground, IsTrigger, fired, IsFiringRun}
use Rattle.meaning.specs.Naming.{IsNamed, AreNamed}
use Rattle.meaning.specs.Fitting.{HaveConstants, Fit, RulesFit}

pub named_more : (constants : List (List ℕ)) (m n : ℕ) (v : Val) → m ≤ n → IsNamed constants m v → IsNamed constants n v
named_more constants m n (Const c) l is = is
named_more constants m n (Label k) l is = omega arith

module _ (rules : List Rule) (state : State) (trigger : Trigger) (rule : Rule)
    (is : IsTrigger rules state trigger rule) (numbered : IsNumbered rule) where
  -- what holds of the values of the facts, of the head's constants and of the trigger's labels holds of all values
  -- that the head gets
  pub head_values : (P : Val → Type 0) →
      ((fact : Ground) (v : Val) → Contains state.facts fact → Contains fact.vals v → P v) →
      ((atom : Atom) (t : List ℕ) → Contains rule.head atom → Contains atom.terms (Said t) → P (Const t)) →
      ((i : ℕ) → i < bound rule.head - bound rule.body → P (Label (trigger.fresh + i))) →
      (fact : Ground) (v : Val) → Contains (map (ground (assigned trigger)) rule.head) fact → Contains fact.vals v → P v
  head_values P old said new fact v c inside =
      let (atom, among, e) = contains_mapped (ground (assigned trigger)) rule.head fact c in
      let (term, has, same) = contains_mapped (value_of Const (assigned trigger)) atom.terms v
      (subst (λ (f : Ground). Contains f.vals v) (sym e) inside) in
      subst P same (each term atom among has)
    where
      each : (term : Term) (atom : Atom) → Contains rule.head atom → Contains atom.terms term →
          P (value_of Const (assigned trigger) term)
      each (Said t) atom among has = said atom t among has
      each (Var x) atom among has =
          let top : x < bound rule.head = occurs_below rule.head x (atom, among, has) in
          ⊎_elim
          (λ l.
          let (b, within, occurs) = numbered.body x l in
          old (ground (assigned trigger) b) (assigned trigger x) (is.body b within)
          (contains_map (value_of Const (assigned trigger)) b.terms (Var x) occurs))
          (λ l.
          let split : bound rule.body + (x - bound rule.body) ≡ x = omega arith in
          let made = fresh_is rules state trigger rule is (x - bound rule.body) in
          let label : Label (trigger.fresh + (x - bound rule.body)) ≡ assigned trigger x =
          sym made ∙ ap (assigned trigger) split in
          subst P label (new (x - bound rule.body) (omega arith)))
          (cases_lt x (bound rule.body))

-- the facts of the head have the arities of its atoms
pub head_fits : (schema : SchemaParts) (trigger : Trigger) (rule : Rule) →
    ((atom : Atom) → Contains rule.head atom → FitsRelation schema atom.rel atom.terms) →
    Fit schema (map (ground (assigned trigger)) rule.head)
head_fits schema trigger rule heads fact c =
    let (atom, among, e) = contains_mapped (ground (assigned trigger)) rule.head fact c in
    let as_long = ap (λ (f : Ground). length f.vals) (sym e) ∙ length-map atom.terms (value_of Const (assigned trigger)) in
    fits_alike schema atom.rel fact.rel atom.terms fact.vals (ap (λ (f : Ground). f.rel) e) as_long (heads atom among)

module _ (constants : List (List ℕ)) (rules : List Rule) (state : State) (trigger : Trigger) (rule : Rule)
    (is : IsTrigger rules state trigger rule) (numbered : IsNumbered rule) where
  fired_named : HaveConstants constants rule.head → AreNamed constants state.next state.facts →
      AreNamed constants (fired state trigger rule).next (fired state trigger rule).facts
  fired_named have named fact v c inside =
      let after : ℕ = (fired state trigger rule).next in
      let up : state.next ≤ trigger.fresh = is.fresh in
      let later : state.next ≤ (fired state trigger rule).next = omega arith in
      ⊎_elim (λ old. named_more constants state.next after v later (named fact v old inside))
      (λ new. head_values rules state trigger rule is numbered (IsNamed constants after)
      (λ f w a h. named_more constants state.next after w later (named f w a h)) have (λ i l. omega arith) fact v new
      inside)
      (added_cases state.facts (map (ground (assigned trigger)) rule.head) fact c)

  fired_fits : (schema : SchemaParts) →
      ((atom : Atom) → Contains rule.head atom → FitsRelation schema atom.rel atom.terms) → Fit schema state.facts →
      Fit schema (fired state trigger rule).facts
  fired_fits schema heads fit fact c =
      ⊎_elim (λ old. fit fact old) (λ new. head_fits schema trigger rule heads fact new)
      (added_cases state.facts (map (ground (assigned trigger)) rule.head) fact c)

-- what a whole run keeps
pub record Keeps (schema : SchemaParts) (constants : List (List ℕ)) (state end : State) : Type 0 where
  pub grows : (fact : Ground) → Contains state.facts fact → Contains end.facts fact
  pub next : state.next ≤ end.next
  pub named : AreNamed constants end.next end.facts
  pub fit : Fit schema end.facts

pub run_keeps : (schema : SchemaParts) (constants : List (List ℕ)) (log : List Trigger) (state end : State) → RulesFit schema constants → AreNamed constants state.next state.facts → Fit schema state.facts → IsFiringRun schema.rules state log end → Keeps schema constants state end
run_keeps schema constants [] state end rules named fit run = subst (λ e. Keeps schema constants state e) (sym run) (record { grows = λ fact c. c; next = omega arith; named = named; fit = fit })
run_keeps schema constants (trigger ∷ log) state end rules named fit (rule, is, more) =
    let among = contains_got schema.rules trigger.rule rule is.numbered in
    let its = rules.numbered rule among in
    let rest = run_keeps schema constants log (fired state trigger rule) end rules (fired_named constants schema.rules state trigger rule is its (rules.have rule among).1 named)
    (fired_fits constants schema.rules state trigger rule is its schema (λ atom c. rules.heads rule atom among c) fit) more in
    record {
      grows = λ fact c. rest.grows fact (added_left state.facts (map (ground (assigned trigger)) rule.head) fact c);
      next = (let up = is.fresh in let on = rest.next in omega arith);
      named = rest.named;
      fit = rest.fit;
    }
