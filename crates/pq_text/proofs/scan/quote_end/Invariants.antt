use Rattle.std.proofs.Common.{◌≡◌, ◌+◌, ◌≤◌, None, false, length}
use Rattle.std.specs.Prelude.{IfSome}
use Rattle.pq_text.specs.Tokens.{end_from}
use Rattle.pq_text.proofs.scan.quote_end.Given as goal

abbrev pub invariant-loop-left : goal.invariant-loop-left
invariant-loop-left l = (l.place + length l.left ≡ l.at + length l.bytes) × (l.at ≤ l.place) × (end_from l.at None false l.quote l.bytes ≡ end_from l.place l.last l.behind_quote l.quote l.left) × IfSome l.last (λ e. (l.at ≤ e) × (e ≤ l.place))

abbrev pub decreases-loop-left : goal.decreases-loop-left
decreases-loop-left l = length l.left
