use Rattle.std.proofs.Common.{◌≡◌, ◌++◌, take}
use Rattle.std.specs.Prelude.{flat_map}
use Rattle.pq_text.specs.Utf8.{KeepsUtf8}
use Rattle.explain.specs.Printing.{firing_text}
use Rattle.explain.proofs.firings.push_firings.Given as goal

abbrev pub invariant-loop-firing : goal.invariant-loop-firing
invariant-loop-firing l = record {
  text : l.out.items ≡ l.initial.out.items ++ flat_map (firing_text l.schema.rules l.schema.methods) (take l.firing-index l.log);
  utf8 : KeepsUtf8 l.initial.out.items l.out.items;
}
