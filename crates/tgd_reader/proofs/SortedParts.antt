-- No rule of a schema, with names in place of numbers, has a wrong sort.
use Rattle.std.proofs.Common.{◌≡◌, ◌⊎◌, ℕ, zero, suc, ◌<◌, ◌≤◌, List, [], ◌∷◌, ◌++◌, slice_get, Option, Some, refl, sym, ap, subst, ◌∙◌, arith, ⊎_elim}
use Rattle.std.specs.Prelude.{Contains, map}
use Rattle.std.specs.List.{zip}
use Rattle.std.proofs.lemmas.List.{map-append}
use Rattle.meaning.specs.declared.types.Relation.{Relation}
use Rattle.meaning.specs.declared.types.Rule.{Rule}
use Rattle.meaning.specs.declared.types.Atom.{Atom}
use Rattle.meaning.specs.declared.types.Term.{Term}
use Rattle.meaning.specs.declared.types.Term.TheVariants.{Var, Const}
use Rattle.meaning.specs.declared.types.Sort.{Sort}
use Rattle.meaning.specs.declared.types.Sort.TheVariants.{Text, Int}
use Rattle.meaning.specs.declared.types.SchemaParts.{SchemaParts}
use Rattle.meaning.specs.Sorts.{RuleIsSorted}
use Rattle.meaning.specs.Triggers.{terms_bound}
use Rattle.lists.proofs.Members.{contains_cases, contains_got, contains_mapped, got_mapped, got_below, contains_joined, joined_from, some_injective}
use Rattle.access_schema.specs.declared.limits.TheConstants.{MOST_VARIABLES}
use Rattle.access_schema.specs.declared.part.NamedTerm.{NamedTerm}
use Rattle.access_schema.specs.declared.part.NamedTerm.TheVariants.{Var as NamedVar, Const as NamedConst}
use Rattle.access_schema.specs.declared.part.NamedAtom.{NamedAtom}
use Rattle.access_schema.specs.Invariant.{AtomFits, AreRelations, terms_of}
use Rattle.access_schema.specs.Content.{is_named, number_of, sorts_in, sorts_of}
use Rattle.access_schema.specs.SortFaults.{sorted_terms, HasTwoSorts, HasOtherConstant}
use Rattle.access_schema.proofs.Texts.{find_place}
use Rattle.tgd_reader.specs.Printed.{name_in, name_at, variable_name, named_term, named_atom}
use Rattle.tgd_reader.proofs.Rebuilt.{number_again, same_variable}

zipped : {A B : Type 0} (xs : List A) (ys : List B) (x : A) (y : B) → Contains (zip xs ys) (x, y) → (k : ℕ) × (slice_get xs k ≡ Some x) × (slice_get ys k ≡ Some y)
zipped [] ys x y there = absurd (omega arith)
zipped (a ∷ xs) [] x y there = absurd (omega arith)
zipped {A} {B} (a ∷ xs) (b ∷ ys) x y there = ⊎_elim
    (λ same. (0, ap (λ (p : A × B). Some p.0) same, ap (λ (p : A × B). Some p.1) same))
    (λ later. let (k, one, two) = zipped xs ys x y later in (suc k, one, two))
    (contains_cases (a, b) (zip xs ys) (x, y) there)

var_below : (terms : List Term) (x : ℕ) → Contains terms (Var x) → x < terms_bound terms
var_below [] x there = absurd (omega arith)
var_below (Const c ∷ terms) x there = ⊎_elim (λ same. absurd (let e = same in cc)) (λ later. var_below terms x later) (contains_cases (Const c) terms (Var x) there)
var_below (Var y ∷ terms) x there = ⊎_elim
    (λ (same : Var y ≡ Var x). let e : y ≡ x = cc in omega (arith, e))
    (λ later. let lt = var_below terms x later in omega (arith, lt))
    (contains_cases (Var y) terms (Var x) there)

variable_term : (term : Term) (name : List ℕ) → named_term term ≡ NamedVar name → (x : ℕ) × (term ≡ Var x) × (variable_name x ≡ name)
variable_term (Var x) name is = (x, refl, cc)
variable_term (Const c) name is = absurd cc

constant_term : (term : Term) (c : List ℕ) → named_term term ≡ NamedConst c → term ≡ Const c
constant_term (Var x) c is = absurd cc
constant_term (Const text) c is = let e : text ≡ c = cc in ap Const e

-- the term stands in one of the atoms, at a column of that sort
pub record StandsAt (relations : List Relation) (atoms : List Atom) (term : NamedTerm) (sort : Sort) : Type 0 where
  pub atom : Atom
  pub place : ℕ
  pub relation : Relation
  pub among : Contains atoms atom
  pub at : slice_get (map named_term atom.terms) place ≡ Some term
  pub of : slice_get relations atom.rel ≡ Some relation
  pub is : slice_get relation.sorts place ≡ Some sort

module _ (schema : SchemaParts) (are : AreRelations schema.relations) where
  sorts_again : (number : ℕ) (relation : Relation) → slice_get schema.relations number ≡ Some relation → sorts_of schema.relations (name_at schema.relations number) ≡ relation.sorts
  sorts_again number relation at =
      let own : slice_get schema.relations (number_of schema.relations relation.name) ≡ Some relation = ap (slice_get schema.relations) (number_again schema.relations are number relation at) ∙ at in
      ap (sorts_of schema.relations) (ap name_in at) ∙ ap sorts_in (find_place (is_named relation.name) schema.relations relation own)

  stands : (atoms : List Atom) → ((atom : Atom) → Contains atoms atom → AtomFits schema.relations atom) → (term : NamedTerm) (sort : Sort) →
      Contains (sorted_terms schema.relations (map (named_atom schema.relations) atoms)) (term, sort) → StandsAt schema.relations atoms term sort
  stands atoms fits term sort there =
      let beside : NamedAtom → List (NamedTerm × Sort) = λ atom. zip atom.terms (sorts_of schema.relations atom.relation) in
      let (named, listed, pair) = joined_from beside (map (named_atom schema.relations) atoms) (term, sort) there in
      let (atom, among, same) = contains_mapped (named_atom schema.relations) atoms named listed in
      let own : Contains (beside (named_atom schema.relations atom)) (term, sort) = subst (λ (a : NamedAtom). Contains (beside a) (term, sort)) (sym same) pair in
      let (place, at, at_sort) = zipped (map named_term atom.terms) (sorts_of schema.relations (name_at schema.relations atom.rel)) term sort own in
      let (relation, of) = got_below schema.relations atom.rel (fits atom among).placed in
      record { atom = atom; place = place; relation = relation; among = among; at = at; of = of; is = subst (λ (sorts : List Sort). slice_get sorts place ≡ Some sort) (sorts_again atom.rel relation of) at_sort }

  module _ (rule : Rule) (sorted : RuleIsSorted schema rule) (fits : (atom : Atom) → Contains (rule.body ++ rule.head) atom → AtomFits schema.relations atom) (few : terms_bound (terms_of (rule.body ++ rule.head)) ≤ MOST_VARIABLES) where
    below : (atom : Atom) (place x : ℕ) → Contains (rule.body ++ rule.head) atom → slice_get atom.terms place ≡ Some (Var x) → x ≤ MOST_VARIABLES
    below atom place x among at =
        let lt = var_below (terms_of (rule.body ++ rule.head)) x (contains_joined (λ (a : Atom). a.terms) (rule.body ++ rule.head) atom (Var x) among (contains_got atom.terms place (Var x) at)) in
        omega (arith, lt, few)

    no_two : HasTwoSorts (sorted_terms schema.relations (map (named_atom schema.relations) (rule.body ++ rule.head))) → ⊥
    no_two two =
        let name : List ℕ = two.0 in
        let one = stands (rule.body ++ rule.head) fits (NamedVar name) Int two.1 in
        let other = stands (rule.body ++ rule.head) fits (NamedVar name) Text two.2 in
        let (t, at_t, is_t) = got_mapped named_term one.atom.terms one.place (NamedVar name) one.at in
        let (u, at_u, is_u) = got_mapped named_term other.atom.terms other.place (NamedVar name) other.at in
        let (x, var_x, name_x) = variable_term t name is_t in
        let (y, var_y, name_y) = variable_term u name is_u in
        let at_x : slice_get one.atom.terms one.place ≡ Some (Var x) = at_t ∙ ap Some var_x in
        let at_y : slice_get other.atom.terms other.place ≡ Some (Var y) = at_u ∙ ap Some var_y in
        let low = below one.atom one.place x one.among at_x in
        let high = below other.atom other.place y other.among at_y in
        let same : y ≡ x = same_variable y x (omega (arith, high)) (omega (arith, low)) (name_y ∙ sym name_x) in
        let again : slice_get other.atom.terms other.place ≡ Some (Var x) = at_y ∙ ap (λ n. Some (Var n)) same in
        let holds = sorted.variables x one.place other.place one.atom other.atom one.among other.among at_x again (one.relation, one.of, one.is) in
        let own : holds.0 ≡ other.relation = some_injective holds.0 other.relation (sym holds.1 ∙ other.of) in
        let clash : Some Int ≡ Some Text = sym holds.2 ∙ ap (λ (r : Relation). slice_get r.sorts other.place) own ∙ other.is in
        cc

    no_other : HasOtherConstant (sorted_terms schema.relations (map (named_atom schema.relations) (rule.body ++ rule.head))) → ⊥
    no_other has =
        let c : List ℕ = has.0 in
        let one = stands (rule.body ++ rule.head) fits (NamedConst c) Int has.1 in
        let (t, at_t, is_t) = got_mapped named_term one.atom.terms one.place (NamedConst c) one.at in
        has.2 (sorted.constants one.atom one.among one.place c (one.relation, one.of, one.is) (at_t ∙ ap Some (constant_term t c is_t)))

    pub no_wrong_sort : (body head : List NamedAtom) → body ≡ map (named_atom schema.relations) rule.body → head ≡ map (named_atom schema.relations) rule.head →
        HasTwoSorts (sorted_terms schema.relations (body ++ head)) ⊎ HasOtherConstant (sorted_terms schema.relations (body ++ head)) → ⊥
    no_wrong_sort body head in_body in_head wrong =
        let name : Atom → NamedAtom = named_atom schema.relations in
        let all : body ++ head ≡ map name (rule.body ++ rule.head) =
        ap (λ (b : List NamedAtom). b ++ head) in_body ∙ ap (λ (h : List NamedAtom). map name rule.body ++ h) in_head ∙ sym (map-append name rule.body rule.head) in
        ⊎_elim
        (λ two. no_two (subst (λ (atoms : List NamedAtom). HasTwoSorts (sorted_terms schema.relations atoms)) all two))
        (λ other. no_other (subst (λ (atoms : List NamedAtom). HasOtherConstant (sorted_terms schema.relations atoms)) all other))
        wrong
