use Rattle.std.proofs.Common.{List, sym, subst, Contains, heap_items}
use Rattle.least_search.specs.declared.waiting.Waiter.{Waiter}
use Rattle.least_search.proofs.Queues.{pop_only, pop_stay, pop_least}
use Rattle.least_search.proofs.waiting.Waiting.pop.Goals as goal

pub returns-clause-least : goal.returns-clause-least
returns-clause-least c other there = pop_least c.in_ok-waiter.field-0 (heap_items c.pop.new.self) (c.in_ok-waiter.ensures.below_top c.self.invariant) other there

pub returns-clause-stay : goal.returns-clause-stay
returns-clause-stay c other there =
    pop_stay c.in_ok-waiter.field-0 (heap_items c.self.inside.heap) (heap_items c.pop.new.self) c.in_ok-waiter.ensures.permutation other
    (subst (λ (xs : List Waiter). Contains xs other) (sym c.self.view_is) there)

pub returns-clause-only : goal.returns-clause-only
returns-clause-only c other there =
    subst (λ (xs : List Waiter). Contains xs other) c.self.view_is
    (pop_only c.in_ok-waiter.field-0 (heap_items c.self.inside.heap) (heap_items c.pop.new.self) c.in_ok-waiter.ensures.permutation other there)
