use Rattle.std.proofs.Common.{◌≡◌, ◌⊎◌, ℕ, length, true}
use Rattle.std.specs.Prelude.{Contains}
use Rattle.middleware.specs.Live.{is_shown}
use Rattle.middleware.proofs.branch.shown_columns.Given as goal

abbrev pub invariant-loop-left : goal.invariant-loop-left
invariant-loop-left l = (k : ℕ) → is_shown l.outs k ≡ true → Contains l.columns.items k ⊎ (is_shown l.left k ≡ true)

abbrev pub decreases-loop-left : goal.decreases-loop-left
decreases-loop-left l = length l.left
