use Rattle.std.proofs.Common.{◌≡◌, ◌++◌, List, vec_len}
use Rattle.std.specs.Prelude.{Contains}
use Rattle.meaning.specs.Values.{Value}
use Rattle.crawl.specs.Knowing.{TakesIn}
use Rattle.crawl.proofs.known.KnownValues.take_in.Given as goal

abbrev pub decreases-loop-value : goal.decreases-loop-value
decreases-loop-value l = vec_len l.values

-- the values that left the list were taken in
abbrev pub invariant-loop-value : goal.invariant-loop-value
invariant-loop-value l = (taken : List Value) × (l.values.items ++ taken ≡ l.fn.values.items) × TakesIn (Contains taken) l.fn.self l.self
