-- What stands at an integer column stays an integer: under names, along firings and along runs.
use Rattle.std.proofs.Common.{◌≡◌, ℕ, ◌+◌, ◌-◌, List, [], ◌∷◌, ◌++◌, Some, sym, ap, ◌∙◌, subst, ⊎_elim, arith}
use Rattle.std.specs.Prelude.{Contains, slice_get, map}
use Rattle.std.proofs.lemmas.Bool.{cases_lt}
use Rattle.std.proofs.lemmas.List.Elements.{Contains-append_left, Contains-append_right, Contains-push_cases}
use Rattle.lists.proofs.Members.{contains_got, contains_mapped, contains_none, got_mapped, map_got}
use Rattle.lists.proofs.Places.{got_member}
use Rattle.meaning_laws.proofs.Added.{added_cases, opened_from}
use Rattle.meaning_laws.proofs.Carrying.{fresh_is}
use Rattle.meaning.specs.declared.types.Term.{Term}
use Rattle.meaning.specs.declared.types.Term.TheVariants.{Var, Const as Said}
use Rattle.meaning.specs.declared.types.Val.{Val}
use Rattle.meaning.specs.declared.types.Val.TheVariants.{Const, Label}
use Rattle.meaning.specs.declared.types.Atom.{Atom}
use Rattle.meaning.specs.declared.types.Rule.{Rule}
use Rattle.meaning.specs.declared.types.Fact.{Fact}
use Rattle.meaning.specs.declared.types.Ground.{Ground}
use Rattle.meaning.specs.declared.types.Query.{Query}
use Rattle.meaning.specs.declared.types.SchemaParts.{SchemaParts}
use Rattle.meaning.specs.declared.types.Trigger.{Trigger}
use Rattle.meaning.specs.declared.types.Firing.{Firing}
use Rattle.meaning.specs.declared.types.Firing.TheVariants.{Base, Copy, Expose}
use Rattle.meaning.specs.Integers.{IsInteger}
use Rattle.meaning.specs.Sorts.{HoldsIntegers, AreSorted, AtomsAreSorted, RuleIsSorted}
use Rattle.meaning.specs.Matching.{value_of, itself, AnswersQuery}
use Rattle.meaning.specs.Homomorphisms.{image, fact_of, renamed}
use Rattle.meaning.specs.Triggers.{bound, IsNumbered, AreNumbered, State, assigned, ground, IsTrigger, fired, IsFiringRun}
use Rattle.meaning.specs.Runs.{Proof, base_state, copy_state, Fires, part_of, IsRun, opening}
use Rattle.integer_laws.specs.Sorted.{AreSortedFacts, AreSortedGrounds, NamesIntegers, AreSortedRules, ProofIsSorted}

-- sorted facts whose labels at integer columns are named by integers are sorted under the names
pub renamed_sorted : (schema : SchemaParts) (h : ℕ → List ℕ) (facts : List Ground) → AreSortedGrounds schema facts →
    NamesIntegers schema facts h → AreSortedFacts schema (renamed h facts)
renamed_sorted schema h facts sorted named fact c place value holds at =
    let (g, among, e) = contains_mapped (fact_of h) facts fact c in
    let rel : fact.rel ≡ g.rel = sym (ap (λ (f : Fact). f.rel) e) in
    let (v, got, same) = got_mapped (image h) g.vals place value
    (subst (λ (f : Fact). slice_get f.row place ≡ Some value) (sym e) at) in
    subst IsInteger same (each v g among (subst (λ r. HoldsIntegers schema r place) rel holds) got)
  where
    each : (v : Val) (g : Ground) → Contains facts g → HoldsIntegers schema g.rel place →
        slice_get g.vals place ≡ Some v → IsInteger (image h v)
    each (Const t) g among holds got = sorted g among place t holds got
    each (Label k) g among holds got = named g place k among holds got

-- a query that has an answer on sorted facts has sorted atoms
pub answered_is_sorted : (schema : SchemaParts) (query : Query) (facts : List Fact) (row : List (List ℕ)) →
    AreSortedFacts schema facts → AnswersQuery query facts row → AtomsAreSorted schema query.atoms
answered_is_sorted schema query facts row sorted (a, are, e) atom among place c holds at =
    sorted (record { rel = atom.rel; row = map (value_of itself a) atom.terms }) (are atom among) place c holds
    (map_got (value_of itself a) atom.terms place (Said c) at)

const_is : {c d : List ℕ} → Const c ≡ Const d → c ≡ d
const_is {c} {d} e = cc

label_const : (k : ℕ) (c : List ℕ) → Label k ≡ Const c → ⊥
label_const k c e = cc

module _ (schema : SchemaParts) (state : State) (trigger : Trigger) (rule : Rule)
    (is : IsTrigger schema.rules state trigger rule) (numbered : IsNumbered rule) (sorted : RuleIsSorted schema rule)
    (facts_are : AreSortedGrounds schema state.facts) where
  -- a constant of the head is one of the rule, or the value of a variable that stands at an integer column of the body
  pub head_sorted : AreSortedGrounds schema (map (ground (assigned trigger)) rule.head)
  head_sorted fact c place value holds at =
      let (atom, among, e) = contains_mapped (ground (assigned trigger)) rule.head fact c in
      let rel : fact.rel ≡ atom.rel = sym (ap (λ (f : Ground). f.rel) e) in
      let (term, got, same) = got_mapped (value_of Const (assigned trigger)) atom.terms place (Const value)
      (subst (λ (f : Ground). slice_get f.vals place ≡ Some (Const value)) (sym e) at) in
      each term atom among (subst (λ r. HoldsIntegers schema r place) rel holds) got same
    where
      each : (term : Term) (atom : Atom) → Contains rule.head atom → HoldsIntegers schema atom.rel place →
          slice_get atom.terms place ≡ Some term → value_of Const (assigned trigger) term ≡ Const value → IsInteger value
      each (Said t) atom among holds got same =
          subst IsInteger (const_is same)
          (sorted.constants atom (Contains-append_right rule.body rule.head atom among) place t holds got)
      each (Var x) atom among holds got same =
          ⊎_elim
          (λ l.
          let (b, within, occurs) = numbered.body x l in
          let (q, got_b) = got_member b.terms (Var x) occurs in
          let at_b : HoldsIntegers schema b.rel q = sorted.variables x place q atom b
          (Contains-append_right rule.body rule.head atom among) (Contains-append_left rule.body rule.head b within) got
          got_b holds in
          facts_are (ground (assigned trigger) b) (is.body b within) q value at_b
          (map_got (value_of Const (assigned trigger)) b.terms q (Var x) got_b ∙ ap Some same))
          (λ l.
          let split : bound rule.body + (x - bound rule.body) ≡ x = omega arith in
          let made = fresh_is schema.rules state trigger rule is (x - bound rule.body) in
          absurd (label_const (trigger.fresh + (x - bound rule.body)) value
          (sym made ∙ ap (assigned trigger) split ∙ same)))
          (cases_lt x (bound rule.body))

  -- a firing of a sorted rule from sorted facts leaves sorted facts
  pub firing_sorted : AreSortedGrounds schema (fired state trigger rule).facts
  firing_sorted fact c =
      ⊎_elim (λ old. facts_are fact old) (λ new. head_sorted fact new)
      (added_cases state.facts (map (ground (assigned trigger)) rule.head) fact c)

-- firings of sorted rules from sorted facts leave sorted facts
pub run_sorted : (schema : SchemaParts) (log : List Trigger) (state end : State) → AreNumbered schema.rules →
    AreSortedRules schema → AreSortedGrounds schema state.facts → IsFiringRun schema.rules state log end →
    AreSortedGrounds schema end.facts
run_sorted schema [] state end numbered rules facts_are run =
    subst (λ (s : State). AreSortedGrounds schema s.facts) (sym run) facts_are
run_sorted schema (trigger ∷ log) state end numbered rules facts_are (rule, is, more) =
    let among = contains_got schema.rules trigger.rule rule is.numbered in
    run_sorted schema log (fired state trigger rule) end numbered rules
    (firing_sorted schema state trigger rule is (numbered rule among) (rules rule among) facts_are) more

-- the frozen atoms of a query
pub opening_sorted : (schema : SchemaParts) (query : Query) → AtomsAreSorted schema query.atoms →
    ProofIsSorted schema (opening query)
opening_sorted schema query atoms_are = record {
  base = frozen;
  exposed = λ fact c. absurd (contains_none fact c);
  copy = λ fact c. absurd (contains_none fact c);
}
  where
    frozen : AreSortedGrounds schema (opening query).base
    frozen fact c place value holds at =
        let (atom, among, e) = contains_mapped (ground Label) query.atoms fact (opened_from query fact c) in
        let rel : fact.rel ≡ atom.rel = sym (ap (λ (f : Ground). f.rel) e) in
        let (term, got, same) = got_mapped (value_of Const Label) atom.terms place (Const value)
        (subst (λ (f : Ground). slice_get f.vals place ≡ Some (Const value)) (sym e) at) in
        each term atom among (subst (λ r. HoldsIntegers schema r place) rel holds) got same
      where
        each : (term : Term) (atom : Atom) → Contains query.atoms atom → HoldsIntegers schema atom.rel place →
            slice_get atom.terms place ≡ Some term → value_of Const Label term ≡ Const value → IsInteger value
        each (Said t) atom among holds got same = subst IsInteger (const_is same) (atoms_are atom among place t holds got)
        each (Var x) atom among holds got same = absurd (label_const x value same)

-- a firing of a proof
fires_sorted : (schema : SchemaParts) (constants : List (List ℕ)) (proof next : Proof) (firing : Firing) →
    AreNumbered schema.rules → AreSortedRules schema → ProofIsSorted schema proof →
    Fires schema constants proof firing next → ProofIsSorted schema next
fires_sorted schema constants proof next (Base trigger) numbered rules sorted (rule, first, e) =
    let is = first.active.trigger_is in
    let among = contains_got schema.rules trigger.rule rule is.numbered in
    subst (ProofIsSorted schema) (sym e) (record {
      base = firing_sorted schema (base_state proof) trigger rule is (numbered rule among) (rules rule among) sorted.base;
      exposed = sorted.exposed;
      copy = sorted.copy;
    })
fires_sorted schema constants proof next (Copy trigger) numbered rules sorted (rule, first, quiet, e) =
    let is = first.active.trigger_is in
    let among = contains_got schema.rules trigger.rule rule is.numbered in
    subst (ProofIsSorted schema) (sym e) (record {
      base = sorted.base;
      exposed = sorted.exposed;
      copy = firing_sorted schema (copy_state proof) trigger rule is (numbered rule among) (rules rule among) sorted.copy;
    })
fires_sorted schema constants proof next (Expose number fact) numbered rules sorted (method, active, quiet, e) =
    let pushed : (facts : List Ground) → AreSortedGrounds schema facts → AreSortedGrounds schema (facts ++ fact ∷ []) =
    λ facts are f c. ⊎_elim (λ old. are f old)
    (λ same. subst (λ (g : Ground). AreSorted Const schema g.rel g.vals) same (sorted.base fact active.of_base))
    (Contains-push_cases facts fact f c) in
    subst (ProofIsSorted schema) (sym e) (record {
      base = sorted.base;
      exposed = pushed proof.exposed sorted.exposed;
      copy = pushed proof.copy sorted.copy;
    })

-- a run from a sorted proof leaves a sorted proof
pub proof_sorted : (schema : SchemaParts) (constants : List (List ℕ)) (part : ℕ) (proof : Proof) (log : List Firing)
    (end : Proof) → AreNumbered schema.rules → AreSortedRules schema → ProofIsSorted schema proof →
    IsRun schema constants part proof log end → ProofIsSorted schema end
proof_sorted schema constants part proof [] end numbered rules sorted run =
    subst (ProofIsSorted schema) (sym run) sorted
proof_sorted schema constants part proof (firing ∷ log) end numbered rules sorted (order, (next, fires, more)) =
    proof_sorted schema constants (part_of firing) next log end numbered rules
    (fires_sorted schema constants proof next firing numbered rules sorted fires) more
