use Rattle.std.proofs.Common.{◌≡◌, ℕ, ◌+◌, ◌-◌, length}
use Rattle.accessible_copy.specs.Methods.{methods_of}
use Rattle.accessible_copy.proofs.method_index.lengthen.Given as goal

abbrev pub invariant-loop-alloc : goal.invariant-loop-alloc
invariant-loop-alloc l = (rel : ℕ) → methods_of l.lists.items rel ≡ methods_of l.fn.lists.items rel

abbrev pub decreases-loop-alloc : goal.decreases-loop-alloc
decreases-loop-alloc l = l.index + 1 - length l.lists.items
