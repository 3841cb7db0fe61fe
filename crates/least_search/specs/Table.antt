-- What a search knows of sets.
use Rattle.std.specs.Prelude.{ℕ, List, Option, nat_eq}
use Rattle.std.specs.HashMap.{get}
use Rattle.std.specs.Cmp.Lexicographic.{pointwise}
use Rattle.least_search.specs.declared.table.Seen.{Seen}
use Rattle.least_search.specs.declared.table.SetTable.{SetTable}

-- What a table knows of the set with that key.
abbrev pub seen_at : SetTable → List ℕ → Option Seen
seen_at table key = get (pointwise nat_eq) table.seen key
