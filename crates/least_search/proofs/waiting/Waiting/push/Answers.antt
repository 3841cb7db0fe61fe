use Rattle.std.proofs.Common.{◌≡◌, ◌⊎◌, List, sym, subst, Contains, heap_items}
use Rattle.least_search.specs.declared.waiting.Waiter.{Waiter}
use Rattle.least_search.proofs.Queues.{push_only, push_waiter, push_kept}
use Rattle.least_search.proofs.waiting.Waiting.push.Goals as goal

pub returns-clause-only : goal.returns-clause-only
returns-clause-only c other there =
    subst (λ (xs : List Waiter). (c.args.waiter ≡ other) ⊎ Contains xs other) c.self.view_is
    (push_only (record { 0 = c.args.waiter }) (heap_items c.self.inside.heap) (heap_items c.push.new.self) c.in_ok-push.ensures.permutation other there)

pub returns-clause-waiter : goal.returns-clause-waiter
returns-clause-waiter c = push_waiter (record { 0 = c.args.waiter }) (heap_items c.self.inside.heap) (heap_items c.push.new.self) c.in_ok-push.ensures.permutation

pub returns-clause-kept : goal.returns-clause-kept
returns-clause-kept c other there =
    push_kept (record { 0 = c.args.waiter }) (heap_items c.self.inside.heap) (heap_items c.push.new.self) c.in_ok-push.ensures.permutation other
    (subst (λ (xs : List Waiter). Contains xs other) (sym c.self.view_is) there)
