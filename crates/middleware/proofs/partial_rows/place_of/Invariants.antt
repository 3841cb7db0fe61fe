use Rattle.std.proofs.Common.{◌≡◌, ◌<◌, ◌≤◌, ◌-◌, ℕ, get_or, length, map, []}
use Rattle.std.specs.declared.cmp.Ordering.TheVariants.{Less, Greater}
use Rattle.row_text.specs.RowText.{row_cmp}
use Rattle.middleware.proofs.partial_rows.place_of.Given as goal

-- the rows before low are below these values, and those from high on are above them
abbrev pub invariant-loop-low : goal.invariant-loop-low
invariant-loop-low l = record {
  order : l.low ≤ l.high;
  within : l.high ≤ length l.rows;
  below : (k : ℕ) → k < l.low → row_cmp (get_or l.rows k []) (map (λ s. s.now) l.values) ≡ Less;
  above : (k : ℕ) → l.high ≤ k → k < length l.rows → row_cmp (get_or l.rows k []) (map (λ s. s.now) l.values) ≡ Greater;
}

abbrev pub decreases-loop-low : goal.decreases-loop-low
decreases-loop-low l = l.high - l.low
