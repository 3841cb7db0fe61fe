use Rattle.std.proofs.Common.{◌≡◌, ◌++◌, take}
use Rattle.std.specs.Prelude.{flat_map}
use Rattle.pq_text.specs.Utf8.{KeepsUtf8}
use Rattle.plan_form.specs.Printing.{branch_text}
use Rattle.plan_form.proofs.print.push_branches.Given as goal

abbrev pub invariant-loop-branch : goal.invariant-loop-branch
invariant-loop-branch l = record {
  text : l.out.items ≡ l.initial.out.items ++ flat_map branch_text (take l.branch-index l.branches);
  utf8 : KeepsUtf8 l.initial.out.items l.out.items;
}
