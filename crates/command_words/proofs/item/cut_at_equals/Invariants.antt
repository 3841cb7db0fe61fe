use Rattle.std.proofs.Common.{◌≡◌, ℕ, ◌<◌, get_or}
use Rattle.command_words.proofs.item.cut_at_equals.Given as goal

-- no `=` stands before this place
abbrev pub invariant-loop-place : goal.invariant-loop-place
invariant-loop-place l = (k : ℕ) → k < l.place → get_or l.text k 0 ≡ 61 → ⊥
