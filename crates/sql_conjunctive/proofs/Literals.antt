-- The constants of a conjunctive form are literals of its select.
use Rattle.std.proofs.Common.{◌≡◌, ◌⊎◌, ℕ, zero, suc, ◌<◌, List, [], ◌∷◌, Some, refl, sym, ap, ◌∙◌, subst, inl, inr, ⊎_elim}
use Rattle.std.specs.Prelude.{Contains, slice_get}
use Rattle.std.specs.List.{AllZip}
use Rattle.meaning.specs.declared.types.Term.TheVariants.{Const}
use Rattle.meaning.specs.declared.types.Atom.{Atom}
use Rattle.meaning.specs.declared.types.Query.{Query}
use Rattle.meaning.specs.declared.types.SchemaParts.{SchemaParts}
use Rattle.meaning.specs.declared.types.Operand.{Operand}
use Rattle.meaning.specs.declared.types.Operand.TheVariants.{Column, Literal}
use Rattle.meaning.specs.declared.types.Condition.{Condition}
use Rattle.meaning.specs.declared.types.Select.{Select}
use Rattle.meaning.specs.Values.{Value}
use Rattle.meaning.specs.Instances.{FitsRelation}
use Rattle.meaning.specs.Conjunctive.{AreJoined, given, alike, turned, chained, OperandFits, SelectFits, or_empty, term_in, term_of, IsAtomFor, IsConjunctive}
use Rattle.meaning.specs.Fitting.{HaveConstants, QueryHasConstants}
use Rattle.lists.proofs.Members.{contains_mapped, some_injective}
use Rattle.lists.proofs.Places.{got_contained}
use Rattle.sql_conjunctive.specs.Form.{HaveLiterals}

-- the operand is a side of a condition
abbrev pub IsSide : List Condition → Operand → Type 0
IsSide conditions o = (condition : Condition) × Contains conditions condition × ((condition.left ≡ o) ⊎ (condition.right ≡ o))

-- operands that are joined are one, or both are sides
pub joined_sides : (conditions : List Condition) {o p : Operand} → AreJoined conditions o p → (o ≡ p) ⊎ (IsSide conditions o × IsSide conditions p)
joined_sides conditions (given condition among) = inr ((condition, among, inl refl), (condition, among, inr refl))
joined_sides conditions (alike o) = inl refl
joined_sides conditions (turned j) = ⊎_elim (λ e. inl (sym e)) (λ both. inr (both.1, both.0)) (joined_sides conditions j)
joined_sides conditions (chained {o} {p} {q} i j) = ⊎_elim
    (λ (e : o ≡ p). ⊎_elim (λ f. inl (e ∙ f)) (λ both. inr (subst (IsSide conditions) (sym e) both.0, both.1)) (joined_sides conditions j))
    (λ both. ⊎_elim (λ f. inr (both.0, subst (IsSide conditions) f both.1)) (λ others. inr (both.0, others.1)) (joined_sides conditions j))
    (joined_sides conditions i)

-- the FROM item of an atom
pub shaped_from : (schema : SchemaParts) (froms : List ℕ) (atoms : List Atom) (k : ℕ) (atom : Atom) → AllZip (IsAtomFor schema) froms atoms → slice_get atoms k ≡ Some atom →
    (rel : ℕ) × (slice_get froms k ≡ Some rel) × (atom.rel ≡ rel) × FitsRelation schema rel atom.terms
shaped_from schema [] [] k atom is at = absurd (cc)
shaped_from schema [] (first ∷ atoms) k atom is at = absurd is
shaped_from schema (rel ∷ froms) [] k atom is at = absurd is
shaped_from schema (rel ∷ froms) (first ∷ atoms) zero atom ((same, fit), is) at =
    let one : first ≡ atom = some_injective first atom at in
    (rel, refl, sym (ap (λ (a : Atom). a.rel) one) ∙ same, subst (λ (a : Atom). FitsRelation schema rel a.terms) one fit)
shaped_from schema (rel ∷ froms) (first ∷ atoms) (suc k) atom (its, is) at = shaped_from schema froms atoms k atom is at

module _ (schema : SchemaParts) (select : Select) (query : Query) (is : IsConjunctive schema select query) (fits : SelectFits schema select) where
  constant_side : (o : Operand) (c : Value) → OperandFits schema select o → term_of query.atoms o ≡ Const c → (o ≡ Literal c) ⊎ IsSide select.conditions (Literal c)
  constant_side o c o_fits e = ⊎_elim (λ same. inl same) (λ both. inr both.1) (joined_sides select.conditions (is.only o (Literal c) o_fits tt e))

  module _ (constants : List Value) (have : HaveLiterals constants select) where
    side_known : (c : Value) → IsSide select.conditions (Literal c) → Contains constants c
    side_known c (condition, among, side) = have.conditions condition c among side

    atoms_known : HaveConstants constants query.atoms
    atoms_known atom c (k, inside, got) (j, below, term) =
        let at : slice_get query.atoms k ≡ Some atom = got_contained query.atoms atom (k, inside, got) in
        let (rel, from, same, fit) = shaped_from schema select.froms query.atoms k atom is.atoms at in
        let there : slice_get atom.terms j ≡ Some (Const c) = got_contained atom.terms (Const c) (j, below, term) in
        let e : term_of query.atoms (Column k j) ≡ Const c = ap (λ found. term_in found j) at ∙ ap or_empty there in
        ⊎_elim (λ (alike' : Column k j ≡ Literal c). absurd (cc)) (side_known c)
        (constant_side (Column k j) c (rel, fit.relation, from, fit.there, subst (λ n. j < n) fit.width below) e)

    pub constants_known : QueryHasConstants constants query
    constants_known = record {
      atoms = atoms_known;
      head = λ c among.
          let (o, item, e) = contains_mapped (term_of query.atoms) select.items (Const c) (subst (λ h. Contains h (Const c)) is.head among) in
          ⊎_elim (λ same. have.items c (subst (Contains select.items) same item)) (side_known c) (constant_side o c (fits.items o item) e);
    }
