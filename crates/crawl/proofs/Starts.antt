-- Values whose starts differ compare as their starts do.
use Rattle.std.proofs.Common.{◌≡◌, ◌∙◌, ℕ, [], ◌∷◌, refl}
use Rattle.std.specs.Ordering.{nat_cmp, ordering_then}
use Rattle.std.specs.Cmp.Lexicographic.{slice_cmp}
use Rattle.std.specs.declared.cmp.Ordering.{Ordering}
use Rattle.std.specs.declared.cmp.Ordering.TheVariants.{Less, Equal, Greater}
use Rattle.row_text.specs.RowText.{row_cmp}
use Rattle.row_text.proofs.Starts.{number-decides}
use Rattle.meaning.specs.Values.{Value, Row}
use Rattle.row_text.specs.Starts.{IsStart, first_of}

-- an ordering of the numbers that is not `Equal` is that of the rows
pub row-decides : (a b : Row) (s t : ℕ) (o : Ordering) → IsStart s (first_of a) → IsStart t (first_of b)
    → o ≡ nat_cmp s t → (o ≡ Equal → ⊥) → o ≡ row_cmp a b
row-decides a b s t o h k is other = number-decides a b o h.bytes k.bytes (rw (h.number, k.number) at is) other

alone : (o : Ordering) → ordering_then o Equal ≡ o
alone Less = refl
alone Equal = refl
alone Greater = refl

-- and that of the values
pub text-decides : (a b : Value) (s t : ℕ) (o : Ordering) → IsStart s a → IsStart t b
    → o ≡ nat_cmp s t → (o ≡ Equal → ⊥) → o ≡ slice_cmp nat_cmp a b
text-decides a b s t o h k is other = row-decides (a ∷ []) (b ∷ []) s t o h k is other ∙ alone (slice_cmp nat_cmp a b)
