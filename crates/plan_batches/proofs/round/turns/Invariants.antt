use Rattle.std.proofs.Common.{◌≡◌, ◌++◌, length, take}
use Rattle.std.specs.Vec.Iter.{into_iter_items}
use Rattle.plan_batches.specs.Rounding.{TurnsNoted}
use Rattle.plan_batches.proofs.round.turns.Given as goal

abbrev pub invariant-loop-member : goal.invariant-loop-member
invariant-loop-member l = record {
  parts : l.yielded ++ into_iter_items l.member-iterator ≡ l.fn.members.items;
  number : l.number ≡ length l.yielded;
  noted : TurnsNoted l.schema (take l.number l.plans) l.yielded l.fn.book l.book l.goings.items;
}
