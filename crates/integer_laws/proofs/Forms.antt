-- The conjunctive form of a sorted select has sorted atoms.
use Rattle.std.proofs.Common.{◌≡◌, ◌⊎◌, ℕ, zero, suc, ◌<◌, List, [], ◌∷◌, length, Some, refl, sym, ap, ◌∙◌, subst, inl, inr, ⊎_elim}
use Rattle.std.specs.Prelude.{slice_get}
use Rattle.std.specs.List.{AllZip}
use Rattle.std.proofs.lemmas.Option.{slice_get_within}
use Rattle.lists.proofs.Members.{some_injective}
use Rattle.lists.proofs.Places.{got_member}
use Rattle.meaning.specs.declared.types.Term.TheVariants.{Const as Said}
use Rattle.meaning.specs.declared.types.Atom.{Atom}
use Rattle.meaning.specs.declared.types.Query.{Query}
use Rattle.meaning.specs.declared.types.SchemaParts.{SchemaParts}
use Rattle.meaning.specs.declared.types.Operand.{Operand}
use Rattle.meaning.specs.declared.types.Operand.TheVariants.{Column, Literal}
use Rattle.meaning.specs.declared.types.Select.{Select}
use Rattle.meaning.specs.Integers.{IsInteger}
use Rattle.meaning.specs.Sorts.{HoldsIntegers, AtomsAreSorted}
use Rattle.meaning.specs.Conjunctive.{AreJoined, given, alike, turned, chained, IsIntegerColumn, IsIntegerSide, SelectIsSorted, or_empty, term_in, term_of, IsAtomFor, IsConjunctive}

-- the FROM item of an atom
from_of : (schema : SchemaParts) (froms : List ℕ) (atoms : List Atom) (i : ℕ) (atom : Atom) →
    AllZip (IsAtomFor schema) froms atoms → slice_get atoms i ≡ Some atom →
    (rel : ℕ) × (slice_get froms i ≡ Some rel) × IsAtomFor schema rel atom
from_of schema [] [] i atom zip at = absurd (cc)
from_of schema [] (first ∷ atoms) i atom zip at = absurd zip
from_of schema (rel ∷ froms) [] i atom zip at = absurd zip
from_of schema (rel ∷ froms) (first ∷ atoms) zero atom (is, zip) at =
    (rel, refl, subst (IsAtomFor schema rel) (some_injective first atom at) is)
from_of schema (rel ∷ froms) (first ∷ atoms) (suc i) atom (is, zip) at = from_of schema froms atoms i atom zip at

module _ (schema : SchemaParts) (select : Select) (query : Query) (sorted : SelectIsSorted schema select)
    (form : IsConjunctive schema select query) where
  -- the operand is an integer column, or its term is an integer
  abbrev IsIntegral : Operand → Type 0
  IsIntegral o =
      IsIntegerColumn schema select o ⊎ ((d : List ℕ) × (term_of query.atoms o ≡ Said d) × IsInteger d)

  of_side : (o : Operand) → IsIntegerSide schema select o → IsIntegral o
  of_side (Literal text) integer = inr (text, refl, integer)
  of_side (Column from column) holds = inl holds

  -- this passes along conditions in both directions
  along : {o p : Operand} → AreJoined select.conditions o p → (IsIntegral o → IsIntegral p) × (IsIntegral p → IsIntegral o)
  along (given condition among) =
      let same = form.joined condition among in (
        ⊎_elim (λ holds. of_side condition.right ((sorted condition among).right holds))
            (λ (d, is, integer). inr (d, sym same ∙ is, integer)),
        ⊎_elim (λ holds. of_side condition.left ((sorted condition among).left holds))
            (λ (d, is, integer). inr (d, same ∙ is, integer)),
      )
  along (alike o) = ((λ is. is), (λ is. is))
  along (turned j) = let (to, from) = along j in (from, to)
  along (chained i j) =
      let (to, from) = along i in
      let (on, back) = along j in
      ((λ is. on (to is)), (λ is. from (back is)))

  -- a literal whose term is an integer is one
  literal_is : (c : List ℕ) → IsIntegral (Literal c) → IsInteger c
  literal_is c (inl none) = absurd none
  literal_is c (inr (d, is, integer)) = let same : d ≡ c = cc in subst IsInteger same integer

  pub forms_are_sorted : AtomsAreSorted schema query.atoms
  forms_are_sorted atom among place c holds at =
      let (i, there) = got_member query.atoms atom among in
      let (rel, got, is) = from_of schema select.froms query.atoms i atom form.atoms there in
      let within : place < length atom.terms = slice_get_within atom.terms place (Said c) at in
      let fits = is.1 in
      let below : place < length fits.relation.columns = rw (← fits.width) within in
      let term : term_of query.atoms (Column i place) ≡ Said c =
      ap (λ a. term_in a place) there ∙ ap or_empty at in
      let holds' : HoldsIntegers schema rel place = subst (λ r. HoldsIntegers schema r place) is.0 holds in
      literal_is c ((along (form.only (Column i place) (Literal c) (rel, fits.relation, got, fits.there, below) tt term)).0
      (inl (rel, got, holds')))
