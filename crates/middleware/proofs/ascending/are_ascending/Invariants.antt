use Rattle.std.proofs.Common.{◌≡◌, ◌<◌, ◌+◌, ℕ, get_or, []}
use Rattle.std.specs.declared.cmp.Ordering.TheVariants.{Less}
use Rattle.row_text.specs.RowText.{row_cmp}
use Rattle.middleware.proofs.ascending.are_ascending.Given as goal

-- each row so far is below the next one
abbrev pub invariant-loop-number : goal.invariant-loop-number
invariant-loop-number l = (k : ℕ) → k + 1 < l.number → row_cmp (get_or l.rows k []) (get_or l.rows (k + 1) []) ≡ Less
