use Rattle.std.proofs.Common.{◌≡◌, ◌++◌}
use Rattle.std.specs.Vec.Iter.{into_iter_items}
use Rattle.plan_batches.specs.Each.{Both}
use Rattle.plan_batches.specs.Members.{Ends}
use Rattle.plan_batches.proofs.rounds.end_all.Given as goal

abbrev pub invariant-loop-member : goal.invariant-loop-member
invariant-loop-member l = record {
  parts : l.yielded ++ into_iter_items l.member-iterator ≡ l.fn.members.items;
  ends : Both Ends l.yielded l.runs.items;
}
