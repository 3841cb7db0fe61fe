use Rattle.std.proofs.Common.{◌≡◌, ◌++◌, ◌<◌, ◌+◌, ℕ, take, get_or}
use Rattle.std.specs.Prelude.{flat_map}
use Rattle.std.specs.declared.cmp.Ordering.TheVariants.{Less}
use Rattle.meaning.specs.declared.types.Fact.{Fact}
use Rattle.pq_text.specs.Utf8.{KeepsUtf8}
use Rattle.fact_lines.specs.Lines.{fact_cmp, fact_text}
use Rattle.fact_lines.proofs.lines.push_ascending.Given as goal

-- the facts so far ascend, and their lines are written
abbrev pub invariant-loop-number : goal.invariant-loop-number
invariant-loop-number l = record {
  ascends : (k : ℕ) (d : Fact) → k + 1 < l.number → fact_cmp (get_or l.facts k d) (get_or l.facts (k + 1) d) ≡ Less;
  text : l.out.items ≡ l.initial.out.items ++ flat_map (fact_text l.schema.relations) (take l.number l.facts);
  utf8 : KeepsUtf8 l.initial.out.items l.out.items;
}
