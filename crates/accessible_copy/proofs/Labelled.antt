-- Labels of the copy, firing after firing.
use Rattle.std.proofs.Common.{◌≡◌, ℕ, ◌+◌, ◌-◌, ◌<◌, ◌≤◌, List, [], ◌∷◌, ◌++◌, sym, ap, ◌∙◌, subst, inl, inr, ⊎_elim, arith}
use Rattle.std.specs.Prelude.{◌⊎◌, Contains, map, slice_get, Some}
use Rattle.std.proofs.lemmas.Bool.{cases_lt}
use Rattle.std.proofs.lemmas.List.Elements.{Contains-append_left, Contains-push, Contains-push_cases}
use Rattle.lists.proofs.Members.{contains_here, contains_there, contains_got, contains_map, contains_mapped, contains_none}
use Rattle.meaning.specs.declared.types.SchemaParts.{SchemaParts}
use Rattle.meaning.specs.declared.types.Term.{Term}
use Rattle.meaning.specs.declared.types.Term.TheVariants.{Var, Const as Said}
use Rattle.meaning.specs.declared.types.Atom.{Atom}
use Rattle.meaning.specs.declared.types.Rule.{Rule}
use Rattle.meaning.specs.declared.types.Ground.{Ground}
use Rattle.meaning.specs.declared.types.Trigger.{Trigger}
use Rattle.meaning.specs.declared.types.Val.TheVariants.{Const, Label}
use Rattle.meaning.specs.declared.types.Firing.{Firing}
use Rattle.meaning.specs.declared.types.Firing.TheVariants.{Base, Copy, Expose}
use Rattle.meaning.specs.Matching.{value_of}
use Rattle.meaning.specs.Triggers.{State, bound, ground, assigned, AreNumbered, IsTrigger, fired}
use Rattle.meaning.specs.Runs.{Proof, copy_state, IsRun, IsKnownValue}
use Rattle.meaning_laws.proofs.Added.{added_cases}
use Rattle.meaning_laws.proofs.Carrying.{fresh_is, occurs_below}
use Rattle.accessible_copy.specs.Proving.{Proving, IsProofOf, log_of}
use Rattle.accessible_copy.specs.Labels.{IsMadeInCopy, IsKnownOrMade}
use Rattle.accessible_copy.proofs.Writing.{written_run}

-- each label of the facts has the property
abbrev pub AllLabels : (ℕ → Type 0) → List Ground → Type 0
AllLabels Has facts = (fact : Ground) (k : ℕ) → Contains facts fact → Contains fact.vals (Label k) → Has k

-- a firing makes labels of its own alone
fired_labels : (Has : ℕ → Type 0) (rules : List Rule) (state : State) (trigger : Trigger) (rule : Rule) → IsTrigger rules state trigger rule → AreNumbered rules
    → ((k : ℕ) → trigger.fresh ≤ k → k < trigger.fresh + (bound rule.head - bound rule.body) → Has k) → AllLabels Has state.facts → AllLabels Has (fired state trigger rule).facts
fired_labels Has rules state trigger rule is numbered made all fact k c i =
    ⊎_elim (λ old. all fact k old i)
    (λ new. let (atom, among, e) = contains_mapped (ground (assigned trigger)) rule.head fact new in
    let (term, has, same) = contains_mapped (value_of Const (assigned trigger)) atom.terms (Label k) (subst (λ (g : Ground). Contains g.vals (Label k)) (sym e) i) in
    each atom among term has same)
    (added_cases state.facts (map (ground (assigned trigger)) rule.head) fact c)
  where
    fresh : (i : ℕ) → Label (trigger.fresh + i) ≡ Label k → i < bound rule.head - bound rule.body → Has k
    fresh i e low = let same : trigger.fresh + i ≡ k = cc in made k (omega arith) (omega arith)

    each : (atom : Atom) → Contains rule.head atom → (term : Term) → Contains atom.terms term → value_of Const (assigned trigger) term ≡ Label k → Has k
    each atom among (Said t) has same = absurd (cc)
    each atom among (Var x) has same =
        ⊎_elim (λ below. let (b, within, occurs) = (numbered rule (contains_got rules trigger.rule rule is.numbered)).body x below in
        all (ground (assigned trigger) b) k (is.body b within) (subst (λ v. Contains (map (value_of Const (assigned trigger)) b.terms) v) same (contains_map (value_of Const (assigned trigger)) b.terms (Var x) occurs)))
        (λ above. let split : bound rule.body + (x - bound rule.body) ≡ x = omega arith in
        let low = occurs_below rule.head x (atom, among, has) in
        fresh (x - bound rule.body) (sym (fresh_is rules state trigger rule is (x - bound rule.body)) ∙ ap (assigned trigger) split ∙ same) (omega arith)) (cases_lt x (bound rule.body))

module _ (schema : SchemaParts) (constants : List (List ℕ)) (Made : ℕ → Type 0) where
  abbrev Told : Proof → Type 0
  Told proof = AllLabels (λ k. IsKnownValue constants proof.exposed (Label k) ⊎ Made k) proof.copy

  exposed_told : (proof : Proof) (fact : Ground) → Told proof → Told (record proof { exposed = proof.exposed ++ fact ∷ []; copy = proof.copy ++ fact ∷ [] })
  exposed_told proof fact told other k c i =
      ⊎_elim (λ old. ⊎_elim (λ known. inl (⊎_elim (λ text. inl text) (λ (f, among, has). inr (f, Contains-append_left proof.exposed (fact ∷ []) f among, has)) known)) (λ made. inr made) (told other k old i))
      (λ same. inl (inr (fact, Contains-push proof.exposed fact, subst (λ (f : Ground). Contains f.vals (Label k)) (sym same) i))) (Contains-push_cases proof.copy fact other c)

  pub run_labels : (part : ℕ) (proof : Proof) (log : List Firing) (end : Proof) → AreNumbered schema.rules → IsRun schema constants part proof log end
      → ((trigger : Trigger) (rule : Rule) → Contains log (Copy trigger) → slice_get schema.rules trigger.rule ≡ Some rule → (k : ℕ) → trigger.fresh ≤ k → k < trigger.fresh + (bound rule.head - bound rule.body) → Made k)
      → Told proof → Told end
  run_labels part proof [] end numbered e makes told = subst Told (sym e) told
  run_labels part proof (Base trigger ∷ log) end numbered (order, (next, (rule, first, e), more)) makes told =
      run_labels 0 next log end numbered more (λ t r c. makes t r (contains_there (Base trigger) log (Copy t) c)) (subst Told (sym e) told)
  run_labels part proof (Expose number fact ∷ log) end numbered (order, (next, (method, is, quiet, e), more)) makes told =
      run_labels 1 next log end numbered more (λ t r c. makes t r (contains_there (Expose number fact) log (Copy t) c)) (subst Told (sym e) (exposed_told proof fact told))
  run_labels part proof (Copy trigger ∷ log) end numbered (order, (next, (rule, first, quiet, e), more)) makes told =
      run_labels 2 next log end numbered more (λ t r c. makes t r (contains_there (Copy trigger) log (Copy t) c))
      (subst Told (sym e)
      (fired_labels (λ k. IsKnownValue constants proof.exposed (Label k) ⊎ Made k) schema.rules (copy_state proof) trigger rule first.active.trigger_is numbered
      (λ k high low. inr (makes trigger rule (contains_here (Copy trigger) log) first.active.trigger_is.numbered k high low)) told))

pub copied_labels : (schema : SchemaParts) (proof : Proving) → IsProofOf schema proof → (fact : Ground) (k : ℕ) → Contains proof.end.copy fact → Contains fact.vals (Label k) → IsKnownOrMade schema proof k
copied_labels schema proof is fact k c i =
    run_labels schema proof.constants (IsMadeInCopy schema (log_of proof)) 0 proof.start (log_of proof) proof.end is.numbered
    (written_run schema proof.constants 0 proof.start proof.entries proof.end is.written)
    (λ trigger rule among named label high low. (trigger, rule, among, named, high, low))
    (λ other label there has. absurd (contains_none other (subst (λ (l : List Ground). Contains l other) is.none_copied there))) fact k c i
