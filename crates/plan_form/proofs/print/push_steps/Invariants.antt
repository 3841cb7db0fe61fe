use Rattle.std.proofs.Common.{◌≡◌, ◌++◌, take}
use Rattle.std.specs.Prelude.{flat_map}
use Rattle.pq_text.specs.Utf8.{KeepsUtf8}
use Rattle.plan_form.specs.Printing.{step_text}
use Rattle.plan_form.proofs.print.push_steps.Given as goal

abbrev pub invariant-loop-step : goal.invariant-loop-step
invariant-loop-step l = record {
  text : l.out.items ≡ l.initial.out.items ++ flat_map step_text (take l.step-index l.steps);
  utf8 : KeepsUtf8 l.initial.out.items l.out.items;
}
