-- The proof of the empty log.
use Rattle.std.proofs.Common.{◌≡◌, ℕ, ◌≤◌, List, [], map, sym, ap, ◌∙◌, subst, arith}
use Rattle.std.specs.Prelude.{Contains}
use Rattle.lists.proofs.Members.{contains_mapped}
use Rattle.meaning.specs.declared.types.Term.{Term}
use Rattle.meaning.specs.declared.types.Term.TheVariants.{Var, Const as Said}
use Rattle.meaning.specs.declared.types.Atom.{Atom}
use Rattle.meaning.specs.declared.types.Val.TheVariants.{Const, Label}
use Rattle.meaning.specs.declared.types.Ground.{Ground}
use Rattle.meaning.specs.declared.types.Query.{Query}
use Rattle.meaning.specs.declared.types.SchemaParts.{SchemaParts}
use Rattle.meaning.specs.Matching.{value_of}
use Rattle.meaning.specs.Triggers.{LabelsBelow, ground, bound}
use Rattle.meaning.specs.Runs.{Proof, IsOrderedRun, opening}
use Rattle.meaning_laws.proofs.Carrying.{occurs_below}
use Rattle.access_schema.specs.declared.schema.Schema.{Schema}
use Rattle.access_schema.specs.Meaning.{meaning_of}
use Rattle.access_schema.proofs.Keeping.{rules_fit}
use Rattle.rule_pass.specs.declared.pass.TheConstants.{HIGHEST_FIRST_LABEL}
use Rattle.rule_pass.proofs.Bounds.{below_added}
use Rattle.meaning.specs.Search.{AreDistinct}
use Rattle.accessible_copy.specs.declared.entry.Entry.{Entry}
use Rattle.accessible_copy.proofs.Listed.{with_once}
use Rattle.accessible_copy.specs.Proving.{Proving, firings_of, IsWritten, IsProofOf, exposed_in}

var_is : (term : Term) (k : ℕ) → value_of Const Label term ≡ Label k → term ≡ Var k
var_is (Var x) k e = let same : x ≡ k = cc in ap Var same
var_is (Said c) k e = absurd (cc)

pub frozen_below : (atoms : List Atom) (variables : ℕ) → bound atoms ≤ variables → LabelsBelow (map (ground Label) atoms) variables
frozen_below atoms variables l fact k among has =
    let (atom, in_atoms, e) = contains_mapped (ground Label) atoms fact among in
    let has' : Contains (map (value_of Const Label) atom.terms) (Label k) = subst (λ (f : Ground). Contains f.vals (Label k)) (sym e) has in
    let (term, in_terms, e') = contains_mapped (value_of Const Label) atom.terms (Label k) has' in
    let low = occurs_below atoms k (atom, in_atoms, subst (λ t. Contains atom.terms t) (var_is term k e') in_terms) in
    omega arith

pub opening_proof : (schema : Schema) (query : Query) (proof : Proving) → bound query.atoms ≤ query.variables → query.variables ≤ HIGHEST_FIRST_LABEL
    → proof.start ≡ opening query → proof.end ≡ opening query → proof.entries ≡ [] → proof.exposed ≡ [] → IsProofOf (meaning_of schema) proof
opening_proof schema query proof counted few start end entries exposed = record {
  low = subst (λ (p : Proof). p.next ≤ HIGHEST_FIRST_LABEL) (sym start) few;
  labels = subst (λ (p : Proof). LabelsBelow p.base p.next) (sym start) (below_added [] (map (ground Label) query.atoms) 0 query.variables (λ fact k among has. absurd (omega arith)) (omega arith) (frozen_below query.atoms query.variables counted));
  once = subst (λ (p : Proof). AreDistinct p.base) (sym start) (with_once [] (map (ground Label) query.atoms) tt);
  none_exposed = ap (λ (p : Proof). p.exposed) start;
  none_copied = ap (λ (p : Proof). p.copy) start;
  numbered = (rules_fit schema schema.constants (λ c among. among)).numbered;
  written = subst (λ (es : List Entry). IsWritten (meaning_of schema) proof.constants 0 proof.start es proof.end) (sym entries) (end ∙ sym start);
  exposed = exposed ∙ sym (ap exposed_in entries);
}

-- the empty log is ordered
pub opening_ordered : (schema : SchemaParts) (constants : List (List ℕ)) (query : Query) (start end : Proof) (entries : List Entry) → start ≡ opening query → end ≡ opening query → entries ≡ [] → IsOrderedRun schema constants 0 start (firings_of entries) end
opening_ordered schema constants query start end entries s e none = subst (λ (es : List Entry). IsOrderedRun schema constants 0 start (firings_of es) end) (sym none) (e ∙ sym s)
