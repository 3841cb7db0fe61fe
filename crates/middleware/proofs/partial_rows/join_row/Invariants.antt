use Rattle.std.proofs.Common.{◌≡◌, drop, map}
use Rattle.middleware.specs.Joining.{joined}
use Rattle.middleware.proofs.partial_rows.join_row.Given as goal

-- what is left of the places and of the values gives the same row
abbrev pub invariant-loop-value : goal.invariant-loop-value
invariant-loop-value l = joined l.places (map (λ s. s.now) l.values) (map (λ s. s.now) l.fn.texts.items) ≡ joined l.left (map (λ s. s.now) (drop l.value-index l.values)) (map (λ s. s.now) l.texts.items)
