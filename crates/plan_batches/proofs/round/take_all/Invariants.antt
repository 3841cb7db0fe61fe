use Rattle.std.proofs.Common.{◌≡◌, ◌++◌, length, take}
use Rattle.std.specs.Vec.Iter.{into_iter_items}
use Rattle.plan_batches.specs.Each.{Each}
use Rattle.plan_batches.specs.Members.{Takes}
use Rattle.plan_batches.proofs.round.take_all.Given as goal

abbrev pub invariant-loop-going : goal.invariant-loop-going
invariant-loop-going l = record {
  parts : l.yielded ++ into_iter_items l.going-iterator ≡ l.fn.goings.items;
  number : l.number ≡ length l.yielded;
  takes : Each (Takes l.kept) (take l.number l.plans) l.yielded l.members.items;
}
