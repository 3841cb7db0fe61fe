-- Columns are counted, and steps come one after another.
use Rattle.std.proofs.Common.{◌≡◌, ◌≤◌, ◌+◌, ℕ, List, [], ◌∷◌, ◌++◌, length, append_assoc, Option, Some, None, sym, ap, ◌∙◌, arith}
use Rattle.std.proofs.lemmas.List.{length-append}
use Rattle.meaning.specs.declared.types.Step.{Step}
use Rattle.meaning.specs.declared.types.Val.{Val}
use Rattle.meaning.specs.declared.types.Val.TheVariants.{Const, Label}
use Rattle.meaning.specs.Extract.{Exposure, column_of, with_label, columns_after, places_of, steps_of}

-- a column that is counted from a number on
abbrev pub counted : ℕ → Option ℕ → Option ℕ
counted n None = None
counted n (Some i) = Some (n + i)

-- a value makes at most one column
length-with_label : (columns : List ℕ) (k : ℕ) (o : Option ℕ) → length (with_label columns k o) ≤ length columns + 1
length-with_label columns k None = omega (arith, length-append columns (k ∷ []))
length-with_label columns k (Some i) = omega arith

pub length-columns_after : (columns : List ℕ) (vals : List Val) → length (columns_after columns vals) ≤ length columns + length vals
length-columns_after columns [] = omega arith
length-columns_after columns (Const c ∷ vals) = omega (arith, length-columns_after columns vals)
length-columns_after columns (Label k ∷ vals) =
    omega (arith, length-with_label columns k (column_of columns k), length-columns_after (with_label columns k (column_of columns k)) vals)

-- the step of an exposure
abbrev pub step_of : List ℕ → Exposure → Step
step_of columns e = record { method = e.method.name; places = places_of columns e.fact.vals }

-- the steps so far and those that are left, one step later
pub one_more : (whole steps pushed : List Step) (before after : List ℕ) (left rest : List Exposure) (e : Exposure) (step : Step) →
    whole ≡ steps ++ steps_of before left → left ≡ e ∷ rest → step ≡ step_of before e → after ≡ columns_after before e.fact.vals → pushed ≡ steps ++ step ∷ [] →
    whole ≡ pushed ++ steps_of after rest
one_more whole steps pushed before after left rest e step so_far at is grown push =
    so_far ∙ ap (λ l. steps ++ steps_of before l) at
    ∙ sym (ap (λ s. steps ++ s ∷ steps_of (columns_after before e.fact.vals) rest) is)
    ∙ sym (ap (λ c. steps ++ step ∷ steps_of c rest) grown)
    ∙ sym (append_assoc steps (step ∷ []) (steps_of after rest))
    ∙ sym (ap (λ p. p ++ steps_of after rest) push)
