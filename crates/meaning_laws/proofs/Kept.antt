-- What every run from an opening state keeps.
use Rattle.std.proofs.Common.{ℕ, ◌<◌, List, [], ◌∷◌, ◌++◌, length, refl, sym, ap, ◌∙◌, subst, ⊎_elim, arith}
use Rattle.std.specs.Prelude.{Contains, map}
use Rattle.std.proofs.lemmas.List.{length-map}
use Rattle.std.proofs.lemmas.List.Elements.{Contains-append_left, Contains-push, Contains-push_cases}
use Rattle.lists.proofs.Members.{contains_map, contains_mapped}
use Rattle.meaning_laws.proofs.Added.{added_right, opened_from}
use Rattle.meaning_laws.proofs.Carrying.{occurs_below}
use Rattle.meaning_laws.proofs.Keeping.{Keeps, named_more, run_keeps}
use Rattle.meaning_laws.proofs.Witness.{witness_refutes}
use Rattle.meaning.specs.declared.types.Term.{Term}
use Rattle.meaning.specs.declared.types.Term.TheVariants.{Var, Const as Said}
use Rattle.meaning.specs.declared.types.Val.{Val}
use Rattle.meaning.specs.declared.types.Val.TheVariants.{Const, Label}
use Rattle.meaning.specs.declared.types.Rule.{Rule}
use Rattle.meaning.specs.declared.types.Ground.{Ground}
use Rattle.meaning.specs.declared.types.Query.{Query}
use Rattle.meaning.specs.declared.types.SchemaParts.{SchemaParts}
use Rattle.meaning.specs.declared.types.Statement.{Statement}
use Rattle.meaning.specs.declared.types.Trigger.{Trigger}
use Rattle.meaning.specs.declared.types.Firing.{Firing}
use Rattle.meaning.specs.declared.types.Firing.TheVariants.{Base, Copy, Expose}
use Rattle.meaning_laws.proofs.Fits.{fits_alike}
use Rattle.meaning.specs.Matching.{value_of}
use Rattle.meaning.specs.Claims.{Refutes}
use Rattle.meaning.specs.Homomorphisms.{renamed, image}
use Rattle.meaning.specs.Triggers.{bound, ground, State, fired}
use Rattle.meaning.specs.Runs.{IsFirstActive, Proof, base_state, copy_state, Fires, part_of, IsRun, IsOrderedRun, opening, frozen_head, IsStuck}
use Rattle.meaning.specs.Naming.{IsNamed, AreNamed, IsNaming}
use Rattle.meaning.specs.Fitting.{Fit, RulesFit, QueryHasConstants, QueryFits, IsKept}
use Rattle.meaning.specs.Conjunctive.{StandFor}

-- a term of the query under the labels of its variables
frozen_named : (constants : List (List ℕ)) (n : ℕ) (terms : List Term) → ((x : ℕ) → Contains terms (Var x) → x < n) → ((c : List ℕ) → Contains terms (Said c) → Contains constants c) → (v : Val) → Contains (map (value_of Const Label) terms) v → IsNamed constants n v
frozen_named constants n terms below have v c =
    let (term, among, e) = contains_mapped (value_of Const Label) terms v c in
    subst (λ w. IsNamed constants n w) e (each term among)
  where
    each : (term : Term) → Contains terms term → IsNamed constants n (value_of Const Label term)
    each (Var x) among = below x among
    each (Said t) among = have t among

pub kept_opening : (schema : SchemaParts) (constants : List (List ℕ)) (query : Query) → QueryFits schema query → QueryHasConstants constants query → IsKept schema constants query (opening query)
kept_opening schema constants query fits have = record {
  base_fits = λ fact c. let (atom, among, e) = contains_mapped (ground Label) query.atoms fact (opened_from query fact c) in
      fits_alike schema atom.rel fact.rel atom.terms fact.vals (ap (λ (f : Ground). f.rel) e) (ap (λ (f : Ground). length f.vals) (sym e) ∙ length-map atom.terms (value_of Const Label)) (fits.arity atom among);
  copy_fits = λ fact c. absurd (none fact c);
  base_named = λ fact v c i. let (atom, among, e) = contains_mapped (ground Label) query.atoms fact (opened_from query fact c) in
      frozen_named constants query.variables atom.terms (λ x h. low x (occurs_below query.atoms x (atom, among, h))) (λ t h. have.atoms atom t among h) v (subst (λ (f : Ground). Contains f.vals v) (sym e) i);
  copy_named = λ fact v c i. absurd (none fact c);
  head_named = frozen_named constants query.variables query.head (λ x c. low x (occurs_below query.atoms x (fits.head x c))) have.head;
  exposed_base = λ fact c. absurd (none fact c);
  exposed_copy = λ fact c. absurd (none fact c);
  answered = (Label, (λ atom among. added_right [] (map (ground Label) query.atoms) (ground Label atom) (contains_map (ground Label) query.atoms atom among)), refl);
}
  where
    none : (fact : Ground) → Contains [] fact → ⊥
    none fact c = omega arith

    low : (x : ℕ) → x < bound query.atoms → x < query.variables
    low x l = let up = fits.variables in omega arith

-- a single active firing as a run
one_keeps : (schema : SchemaParts) (constants : List (List ℕ)) (state : State) (trigger : Trigger) (rule : Rule) → RulesFit schema constants → AreNamed constants state.next state.facts → Fit schema state.facts → IsFirstActive schema.rules state trigger rule → Keeps schema constants state (fired state trigger rule)
one_keeps schema constants state trigger rule rules named fit first =
    run_keeps schema constants (trigger ∷ []) state (fired state trigger rule) rules named fit (rule, first.active.trigger_is, refl)

pub kept_fires : (schema : SchemaParts) (constants : List (List ℕ)) (query : Query) (proof next : Proof) (firing : Firing) → RulesFit schema constants → IsKept schema constants query proof → Fires schema constants proof firing next → IsKept schema constants query next
kept_fires schema constants query proof next (Base trigger) rules kept (rule, first, e) =
    let on = one_keeps schema constants (base_state proof) trigger rule rules kept.base_named kept.base_fits first in
    subst (λ p. IsKept schema constants query p) (sym e) (record {
      base_fits = on.fit;
      copy_fits = kept.copy_fits;
      base_named = on.named;
      copy_named = λ fact v c i. named_more constants proof.next (fired (base_state proof) trigger rule).next v on.next (kept.copy_named fact v c i);
      head_named = λ v c. named_more constants proof.next (fired (base_state proof) trigger rule).next v on.next (kept.head_named v c);
      exposed_base = λ fact c. on.grows fact (kept.exposed_base fact c);
      exposed_copy = kept.exposed_copy;
      answered = (kept.answered.0, (λ atom among. on.grows (ground kept.answered.0 atom) (kept.answered.1 atom among)), kept.answered.2);
    })
kept_fires schema constants query proof next (Copy trigger) rules kept (rule, first, quiet, e) =
    let on = one_keeps schema constants (copy_state proof) trigger rule rules kept.copy_named kept.copy_fits first in
    subst (λ p. IsKept schema constants query p) (sym e) (record {
      base_fits = kept.base_fits;
      copy_fits = on.fit;
      base_named = λ fact v c i. named_more constants proof.next (fired (copy_state proof) trigger rule).next v on.next (kept.base_named fact v c i);
      copy_named = on.named;
      head_named = λ v c. named_more constants proof.next (fired (copy_state proof) trigger rule).next v on.next (kept.head_named v c);
      exposed_base = kept.exposed_base;
      exposed_copy = λ fact c. on.grows fact (kept.exposed_copy fact c);
      answered = kept.answered;
    })
kept_fires schema constants query proof next (Expose number fact) rules kept (method, active, quiet, e) =
    subst (λ p. IsKept schema constants query p) (sym e) (record {
      base_fits = kept.base_fits;
      copy_fits = λ f c. ⊎_elim (λ i. kept.copy_fits f i) (λ i. kept.base_fits f (subst (λ g. Contains proof.base g) i active.of_base)) (Contains-push_cases proof.copy fact f c);
      base_named = kept.base_named;
      copy_named = λ f v c i. ⊎_elim (λ j. kept.copy_named f v j i) (λ j. kept.base_named f v (subst (λ g. Contains proof.base g) j active.of_base) i) (Contains-push_cases proof.copy fact f c);
      head_named = kept.head_named;
      exposed_base = λ f c. ⊎_elim (λ i. kept.exposed_base f i) (λ i. subst (λ g. Contains proof.base g) i active.of_base) (Contains-push_cases proof.exposed fact f c);
      exposed_copy = λ f c. ⊎_elim (λ i. Contains-append_left proof.copy (fact ∷ []) f (kept.exposed_copy f i)) (λ i. subst (λ g. Contains (proof.copy ++ fact ∷ []) g) i (Contains-push proof.copy fact)) (Contains-push_cases proof.exposed fact f c);
      answered = kept.answered;
    })

pub kept_run : (schema : SchemaParts) (constants : List (List ℕ)) (query : Query) (part : ℕ) (proof : Proof) (log : List Firing) (end : Proof) → RulesFit schema constants → IsKept schema constants query proof → IsRun schema constants part proof log end → IsKept schema constants query end
kept_run schema constants query part proof [] end rules kept run = subst (λ p. IsKept schema constants query p) (sym run) kept
kept_run schema constants query part proof (firing ∷ log) end rules kept (order, (next, fires, more)) =
    kept_run schema constants query (part_of firing) next log end rules (kept_fires schema constants query proof next firing rules kept fires) more

-- An ordered run is a run.
pub ordered_is_run : (schema : SchemaParts) (constants : List (List ℕ)) (part : ℕ) (proof : Proof) (log : List Firing) (end : Proof) → IsOrderedRun schema constants part proof log end → IsRun schema constants part proof log end
ordered_is_run schema constants part proof [] end run = run
ordered_is_run schema constants part proof (firing ∷ log) end (order, waits, (next, fires, more)) =
    (order, (next, fires, ordered_is_run schema constants (part_of firing) next log end more))

-- a run from the opening state, after which nothing is active and there is no goal, refutes
pub run_refutes : (schema : SchemaParts) (constants : List (List ℕ)) (statement : Statement) (queries : List Query) (query : Query) (log : List Firing) (proof : Proof) (h : ℕ → List ℕ) → RulesFit schema constants → StandFor schema queries statement → Contains queries query → ((q : Query) → Contains queries q → QueryHasConstants constants q) → QueryFits schema query → IsRun schema constants 0 (opening query) log proof → IsStuck schema constants queries proof (frozen_head query) → IsNaming constants proof.next h → Refutes schema constants statement (renamed h proof.base) (renamed h proof.copy) (map (image h) (frozen_head query))
run_refutes schema constants statement queries query log proof h rules stand among have fits run stuck naming =
    witness_refutes schema constants statement queries query proof h rules stand among have
    (kept_run schema constants query 0 (opening query) log proof rules (kept_opening schema constants query fits (have query among)) run) stuck naming
