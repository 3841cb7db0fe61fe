use Rattle.std.proofs.Common.{◌≡◌, ◌++◌, length, map}
use Rattle.std.specs.Vec.Iter.{into_iter_items}
use Rattle.source_trait.specs.declared.work.Asked.TheVariants as asked
use Rattle.middleware.proofs.lane_round.rows_of.Given as goal

abbrev pub invariant-loop-answer : goal.invariant-loop-answer
invariant-loop-answer l = record {
  parts : l.yielded ++ into_iter_items l.answer-iterator ≡ l.fn.answers.items;
  rows : map asked.Rows l.rows ≡ l.yielded;
  number : l.number ≡ length l.yielded;
}
