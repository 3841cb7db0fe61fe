use Rattle.std.proofs.Common.{◌≡◌, ◌++◌, take}
use Rattle.std.specs.Prelude.{flat_map}
use Rattle.pq_text.specs.Utf8.{KeepsUtf8}
use Rattle.explain.specs.Verdicts.{base_text}
use Rattle.explain.proofs.verdict.push_triggers.Given as goal

abbrev pub invariant-loop-trigger : goal.invariant-loop-trigger
invariant-loop-trigger l = record {
  text : l.out.items ≡ l.initial.out.items ++ flat_map (base_text l.schema.rules) (take l.trigger-index l.log);
  utf8 : KeepsUtf8 l.initial.out.items l.out.items;
}
