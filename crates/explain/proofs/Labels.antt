-- The text of new labels.
use Rattle.std.proofs.Common.{◌≡◌, ℕ, zero, suc, ◌+◌, ◌-◌, List, ◌++◌, map, refl, ap, subst, ◌∙◌, append_assoc, arith}
use Rattle.std.specs.Prelude.{flat_map, codes}
use Rattle.std.specs.List.{range_with_len}
use Rattle.lists.proofs.Members.{joined_twice}
use Rattle.meaning.specs.declared.types.Val.{Val}
use Rattle.meaning.specs.declared.types.Val.TheVariants.{Label}
use Rattle.explain.specs.Printing.{val_text, arrow_text}

abbrev further : List Val → List ℕ
further labels = flat_map (λ y. codes ", " ++ val_text y) labels

abbrev label : ℕ → Val
label k = Label k

-- an arrow, the first label, and the others
pub labels_after : (old mid front new : List ℕ) (from count : ℕ) → (count ≡ 0 → ⊥)
    → mid ≡ old ++ codes " -> " → front ≡ mid ++ val_text (label from) → new ≡ front ++ further (map label (range_with_len (from + 1) (count - 1)))
    → new ≡ old ++ arrow_text (map label (range_with_len from count))
labels_after old mid front new from zero some one two three = absurd (some refl)
labels_after old mid front new from (suc n) some one two three =
    let first : List ℕ = val_text (label from) in
    let less : suc n - 1 ≡ n = omega arith in
    let more : List ℕ = further (map label (range_with_len (from + 1) n)) in
    let rest : new ≡ front ++ more = subst (λ (m : ℕ). new ≡ front ++ further (map label (range_with_len (from + 1) m))) less three in
    joined_twice old front new (codes " -> " ++ first) more (joined_twice old mid front (codes " -> ") first one two) rest ∙ ap (λ (r : List ℕ). old ++ r) (append_assoc (codes " -> ") first more)
