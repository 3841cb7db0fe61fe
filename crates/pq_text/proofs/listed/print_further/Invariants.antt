use Rattle.std.proofs.Common.{◌≡◌, ◌++◌, take}
use Rattle.std.specs.Prelude.{flat_map, codes}
use Rattle.pq_text.specs.Utf8.{KeepsUtf8}
use Rattle.pq_text.proofs.listed.print_further.Given as goal

abbrev pub invariant-loop-item : goal.invariant-loop-item
invariant-loop-item g l = record {
  text : l.out.items ≡ l.initial.out.items ++ flat_map (λ y. codes ", " ++ g.P.Prints.text l.form y) (take l.item-index l.items);
  utf8 : KeepsUtf8 l.initial.out.items l.out.items;
}
