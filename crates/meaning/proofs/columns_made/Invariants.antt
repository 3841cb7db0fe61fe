use Rattle.std.proofs.Common.{◌≡◌, ◌+◌, ◌≤◌, drop}
use Rattle.meaning.specs.Plans.{made}
use Rattle.meaning.proofs.columns_made.Given as goal

abbrev pub invariant-loop-place : goal.invariant-loop-place
invariant-loop-place l = record { rest : made l.total (drop l.place-index l.places) ≡ made l.fn.columns l.places; bound : l.total ≤ l.fn.columns + l.place-index }
