use Rattle.std.proofs.Common.{◌≡◌, ◌++◌}
use Rattle.std.specs.Prelude.{map}
use Rattle.crawl.specs.Knowing.{is_fresh, marked_of}
use Rattle.crawl.proofs.known.KnownValues.marked.Given as goal

-- the values so far, and those that are left
abbrev pub invariant-loop-value : goal.invariant-loop-value
invariant-loop-value l = l.values.items ++ map (λ v. (v, is_fresh l.self v)) l.value-iterator ≡ marked_of l.self
