use Rattle.std.proofs.Common.{List, refl, subst}
use Rattle.meaning.specs.declared.types.Out.{Out}
use Rattle.middleware.specs.BlockRounds.{AddsOutputs}
use Rattle.plan_course.proofs.course.past.Goals as goal

pub returns : goal.returns
returns c = record {
  outputs = subst (λ (l : List Out). AddsOutputs l c.args.course.count c.args.course.blocks.items c.args.course.rows c.in_ok-more.more)
      c.as_slice.ensures c.in_ok-more.ensures;
  branch_is = refl;
  step_is = refl;
  count_is = refl;
  blocks_are = c.new.ensures.items;
}
