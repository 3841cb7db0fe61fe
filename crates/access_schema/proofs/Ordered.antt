-- Variables numbered by first occurrence.
use Rattle.std.proofs.Common.{◌≡◌, ◌+◌, ◌<◌, ◌≤◌, subst, max, ℕ, zero, suc, List, [], ◌∷◌, ◌++◌, Some, take, slice_get, refl, arith, ⊎_elim}
use Rattle.std.specs.Prelude.{Contains}
use Rattle.std.proofs.lemmas.Bool.{cases_lt}
use Rattle.std.proofs.lemmas.List.Elements.{Contains-append_cases}
use Rattle.std.proofs.lemmas.List.Concat.{flat_map-append}
use Rattle.meaning.specs.declared.types.Term.{Term}
use Rattle.meaning.specs.declared.types.Term.TheVariants.{Var, Const}
use Rattle.meaning.specs.declared.types.Atom.{Atom}
use Rattle.meaning.specs.declared.types.Rule.{Rule}
use Rattle.meaning.specs.Matching.{OccursIn}
use Rattle.meaning.specs.Triggers.{terms_bound, bound, IsNumbered}
use Rattle.access_schema.specs.Invariant.{terms_of, AreInOrder}
use Rattle.lists.proofs.Members.{contains_here, contains_there}

-- each variable is below the number that is reached, or is that number
abbrev pub OrderedFrom : ℕ → List Term → Type 0
OrderedFrom n [] = Unit {0}
OrderedFrom n (Const c ∷ terms) = OrderedFrom n terms
OrderedFrom n (Var x ∷ terms) = (x ≤ n) × OrderedFrom (max (x + 1) n) terms

at_place : (n : ℕ) (terms : List Term) → OrderedFrom n terms → (i x : ℕ) → slice_get terms i ≡ Some (Var x) → x ≤ max n (terms_bound (take i terms))
at_place n [] ordered i x at = absurd (cc)
at_place n (Const c ∷ terms) ordered zero x at = absurd (cc)
at_place n (Const c ∷ terms) ordered (suc i) x at = at_place n terms ordered i x at
at_place n (Var y ∷ terms) ordered zero x at = let same : y ≡ x = cc in let le = ordered.0 in omega arith
at_place n (Var y ∷ terms) ordered (suc i) x at = let rest : x ≤ max (max (y + 1) n) (terms_bound (take i terms)) = at_place (max (y + 1) n) terms ordered.1 i x at in omega arith

pub in_order : (terms : List Term) → OrderedFrom 0 terms → AreInOrder terms
in_order terms ordered i x at = let le : x ≤ max 0 (terms_bound (take i terms)) = at_place 0 terms ordered i x at in omega arith

from_place : (n : ℕ) (terms : List Term) → ((i x : ℕ) → slice_get terms i ≡ Some (Var x) → x ≤ max n (terms_bound (take i terms))) → OrderedFrom n terms
from_place n [] at = tt
from_place n (Const c ∷ terms) at = from_place n terms (λ i x got. at (suc i) x got)
from_place n (Var y ∷ terms) at = (
  let le : y ≤ max n 0 = at 0 y refl in omega arith,
  from_place (max (y + 1) n) terms (λ i x got. let le : x ≤ max n (max (y + 1) (terms_bound (take i terms))) = at (suc i) x got in omega arith),
)

pub ordered_from : (terms : List Term) → AreInOrder terms → OrderedFrom 0 terms
ordered_from terms order = from_place 0 terms (λ i x at. let le : x ≤ terms_bound (take i terms) = order i x at in omega arith)

pub ordered_split : (n : ℕ) (first second : List Term) → OrderedFrom n (first ++ second) → OrderedFrom n first × OrderedFrom (max n (terms_bound first)) second
ordered_split n [] second ordered = let e : n ≡ max n 0 = omega arith in (tt, subst (λ m. OrderedFrom m second) e ordered)
ordered_split n (Const c ∷ first) second ordered = ordered_split n first second ordered
ordered_split n (Var x ∷ first) second ordered =
    let (front, back) = ordered_split (max (x + 1) n) first second ordered.1 in
    let e : max (max (x + 1) n) (terms_bound first) ≡ max n (max (x + 1) (terms_bound first)) = omega arith in
    ((ordered.0, front), subst (λ m. OrderedFrom m second) e back)

-- each number from the one reached on, up to the greatest, occurs
pub occurs : (n : ℕ) (terms : List Term) → OrderedFrom n terms → (y : ℕ) → n ≤ y → y < terms_bound terms → Contains terms (Var y)
occurs n [] ordered y le lt = absurd (omega arith)
occurs n (Const c ∷ terms) ordered y le lt = contains_there (Const c) terms (Var y) (occurs n terms ordered y le lt)
occurs n (Var x ∷ terms) ordered y le lt = ⊎_elim
    (λ (small : y < x + 1).
    let top = ordered.0 in
    let same : x ≡ y = omega arith in
    subst (λ z. Contains (Var x ∷ terms) (Var z)) same (contains_here (Var x) terms))
    (λ (large : x + 1 ≤ y). contains_there (Var x) terms (Var y) (occurs (max (x + 1) n) terms ordered.1 y (omega arith) (omega arith)))
    (cases_lt y (x + 1))

terms_bound-append : (first second : List Term) → terms_bound (first ++ second) ≡ max (terms_bound first) (terms_bound second)
terms_bound-append [] second = omega arith
terms_bound-append (Const c ∷ first) second = terms_bound-append first second
terms_bound-append (Var x ∷ first) second = let e = terms_bound-append first second in omega arith

pub bound_is : (atoms : List Atom) → bound atoms ≡ terms_bound (terms_of atoms)
bound_is [] = refl
bound_is (atom ∷ atoms) = let e = bound_is atoms in let f = terms_bound-append atom.terms (terms_of atoms) in omega arith

pub occurs_in : (atoms : List Atom) (x : ℕ) → Contains (terms_of atoms) (Var x) → OccursIn atoms x
occurs_in [] x there = absurd (omega arith)
occurs_in (atom ∷ atoms) x there = ⊎_elim
    (λ here. (atom, contains_here atom atoms, here))
    (λ later. let (other, among, has) = occurs_in atoms x later in (other, contains_there atom atoms other among, has))
    (Contains-append_cases atom.terms (terms_of atoms) (Var x) there)

-- a rule whose variables are in order is numbered through
pub numbered : (rule : Rule) → AreInOrder (terms_of (rule.body ++ rule.head)) → IsNumbered rule
numbered rule order =
    let split : terms_of (rule.body ++ rule.head) ≡ terms_of rule.body ++ terms_of rule.head = flat_map-append (λ (atom : Atom). atom.terms) rule.body rule.head in
    let (front, back) = ordered_split 0 (terms_of rule.body) (terms_of rule.head) (subst (OrderedFrom 0) split (ordered_from (terms_of (rule.body ++ rule.head)) order)) in
    record {
      body = λ x lt. occurs_in rule.body x (occurs 0 (terms_of rule.body) front x (omega arith) (let e = bound_is rule.body in omega arith));
      head = λ x lt le. occurs_in rule.head x (occurs (max 0 (terms_bound (terms_of rule.body))) (terms_of rule.head) back x
          (let e = bound_is rule.body in omega arith) (let e = bound_is rule.head in omega arith));
    }
