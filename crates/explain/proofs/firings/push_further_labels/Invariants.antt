use Rattle.std.proofs.Common.{◌≡◌, ◌++◌, map}
use Rattle.std.specs.Prelude.{flat_map, codes}
use Rattle.std.specs.List.{range_with_len}
use Rattle.meaning.specs.declared.types.Val.TheVariants.{Label}
use Rattle.pq_text.specs.Utf8.{KeepsUtf8}
use Rattle.explain.specs.Printing.{val_text}
use Rattle.explain.proofs.firings.push_further_labels.Given as goal

abbrev pub invariant-loop-place : goal.invariant-loop-place
invariant-loop-place l = record {
  text : l.out.items ≡ l.initial.out.items ++ flat_map (λ y. codes ", " ++ val_text y) (map Label (range_with_len l.from l.place));
  utf8 : KeepsUtf8 l.initial.out.items l.out.items;
}
