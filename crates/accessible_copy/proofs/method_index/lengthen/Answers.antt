use Rattle.std.proofs.Common.{◌∙◌}
use Rattle.accessible_copy.proofs.MethodLists.{lists_grown}
use Rattle.accessible_copy.proofs.method_index.lengthen.Goals as goal

pub loop-alloc-preserved : goal.loop-alloc-preserved
loop-alloc-preserved c = λ rel. rw (c.in_ok-push.ensures.items, c.new.ensures) (lists_grown c.loop-alloc.lists.items rel ∙ c.loop-alloc.invariant rel)
