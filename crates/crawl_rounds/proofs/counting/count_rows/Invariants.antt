use Rattle.std.proofs.Common.{◌≡◌, ◌-◌, ◌^◌, min, ℕ, Bool}
use Rattle.crawl_rounds.specs.Rows.{row_count}
use Rattle.crawl_rounds.proofs.counting.count_rows.Given as goal

-- the counts after so many places
pub record Counted (first : Bool) (known fresh made count all : ℕ) : Type 0 where
  pub rows : count ≡ min (row_count first known fresh made) (2 ^ 32 - 1)
  pub all_rows : all ≡ min (known ^ made) (2 ^ 32 - 1)

abbrev pub invariant-loop : goal.invariant-loop
invariant-loop l = Counted l.fn.first l.fn.known l.fn.fresh l.counter l.count l.all
