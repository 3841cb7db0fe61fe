-- The terms of an atom, one after another: a constant at an integer column is an integer.
use Rattle.std.proofs.Common.{◌≡◌, ℕ, ◌+◌, ◌<◌, ◌≤◌, List, length, Some, sym, ap, ◌∙◌, subst, ⊎_elim, arith}
use Rattle.std.specs.Prelude.{slice_get}
use Rattle.std.proofs.lemmas.Bool.{cases_lt}
use Rattle.std.proofs.lemmas.Option.{slice_get_within}
use Rattle.lists.proofs.Members.{some_injective}
use Rattle.meaning.specs.declared.types.SchemaParts.{SchemaParts}
use Rattle.meaning.specs.declared.types.Term.{Term}
use Rattle.meaning.specs.declared.types.Term.TheVariants.{Const as Said}
use Rattle.meaning.specs.Values.{Value}
use Rattle.meaning.specs.Integers.{IsInteger}
use Rattle.meaning.specs.Sorts.{HoldsIntegers, AreSorted}

-- the term may stand at the column
abbrev pub MayStand : SchemaParts → ℕ → ℕ → Term → Type 0
MayStand schema rel place term = (c : Value) → HoldsIntegers schema rel place → term ≡ Said c → IsInteger c

-- the terms before the place may stand where they do
abbrev pub SortedBefore : SchemaParts → ℕ → List Term → ℕ → Type 0
SortedBefore schema rel terms n =
    (k : ℕ) (c : Value) → k < n → HoldsIntegers schema rel k → slice_get terms k ≡ Some (Said c) → IsInteger c

module _ (schema : SchemaParts) (rel : ℕ) (terms : List Term) where
  module _ (n : ℕ) (term : Term) (got : slice_get terms n ≡ Some term) where
    -- one more term
    pub sorted_more : SortedBefore schema rel terms n → MayStand schema rel n term →
        SortedBefore schema rel terms (n + 1)
    sorted_more before may k c less holds at = ⊎_elim
        (λ earlier. before k c earlier holds at)
        (λ most.
        let here : n ≡ k = omega (arith, most, less) in
        may c (subst (λ place. HoldsIntegers schema rel place) (sym here) holds)
        (some_injective term (Said c) (sym got ∙ ap (λ place. slice_get terms place) here ∙ at)))
        (cases_lt k n)

    -- a term that may not stand where it does
    pub not_sorted : (MayStand schema rel n term → ⊥) → AreSorted Said schema rel terms → ⊥
    not_sorted may_not sorted = may_not (λ c holds is. sorted n c holds (got ∙ ap Some is))

  -- all terms
  pub all_sorted : (n : ℕ) → length terms ≤ n → SortedBefore schema rel terms n → AreSorted Said schema rel terms
  all_sorted n most before place c holds at =
      let within = slice_get_within terms place (Said c) at in
      before place c (omega (arith, within, most)) holds at
