use Rattle.std.proofs.Common.{◌≡◌, ◌-◌}
use Rattle.std.specs.Prelude.{slice_get, option_map}
use Rattle.crawl_rounds.specs.Rows.{rows_of}
use Rattle.crawl.proofs.Beginning.{with_ends}
use Rattle.crawl.proofs.beginnings.beginning.Given as goal

-- the row of the number has these values behind the row of what is left of the number
abbrev pub invariant-loop : goal.invariant-loop
invariant-loop l = slice_get (rows_of l.first l.all l.count) l.number
    ≡ option_map (with_ends l.values.items l.mark) (slice_get (rows_of l.first l.all (l.count - l.counter)) l.rest)
