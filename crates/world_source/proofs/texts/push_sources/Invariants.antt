-- the lines so far, and those of the other relations, are all lines
use Rattle.std.proofs.Common.{◌≡◌, ◌++◌, ◌-◌}
use Rattle.std.specs.List.{range_with_len}
use Rattle.std.specs.Prelude.{flat_map}
use Rattle.world_source.specs.Texts.{source_line, source_lines}
use Rattle.world_source.proofs.texts.push_sources.Given as goal

abbrev pub invariant-loop-k : goal.invariant-loop-k
invariant-loop-k l = l.text.items ++ flat_map (source_line l.n) (range_with_len l.k (9 - l.k)) ≡ l.fn.text.items ++ source_lines l.n
