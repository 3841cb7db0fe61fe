use Rattle.std.proofs.Common.{◌≡◌, ◌++◌, take, map}
use Rattle.std.specs.Prelude.{flat_map}
use Rattle.pq_text.specs.Utf8.{KeepsUtf8}
use Rattle.fact_lines.specs.Lent.{lent_fact}
use Rattle.fact_lines.specs.Lines.{fact_text}
use Rattle.fact_lines.proofs.lines.push_facts.Given as goal

abbrev pub invariant-loop-rel : goal.invariant-loop-rel
invariant-loop-rel l = record {
  text : l.out.items ≡ l.initial.out.items ++ flat_map (fact_text l.schema.relations) (map lent_fact (take l.rel-index l.facts));
  utf8 : KeepsUtf8 l.initial.out.items l.out.items;
}
