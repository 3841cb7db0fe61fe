-- Rows of one length.
use Rattle.std.proofs.Common.{◌≡◌, ◌+◌, inl, inr, ℕ, [], ◌∷◌, length, arith}
use Rattle.std.proofs.lemmas.Bool.{cases_eq}
use Rattle.std.proofs.lemmas.Bool.Decides.{nat_tests}
use Rattle.source_trait.specs.Asking.{RowList, HaveArity}
use Rattle.source_trait.specs.Tables.{bad_row}

-- where no row is bad, each has the length
pub none_bad : (arity n : ℕ) (rows : RowList) → bad_row arity (n + 1) rows ≡ 0 → HaveArity arity rows
none_bad arity n [] h = tt
none_bad arity n (row ∷ rows) h = elim (cases_eq (length row) arity) [
  | inl same ↦ (same, none_bad arity (n + 1) rows (grind (arith, nat_tests, h, same)))
  | inr apart ↦ absurd (grind (arith, nat_tests, h, apart))
]
