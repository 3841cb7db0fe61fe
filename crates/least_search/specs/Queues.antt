-- Paths that wait, in the order of their sums.
use Rattle.std.specs.Prelude.{List, map}
use Rattle.std.specs.declared.cmp.Ordering.{Ordering}
use Rattle.std.specs.declared.cmp.Reverse.{Reverse}
use Rattle.std.specs.Ordering.{nat_cmp, ordering_then}
use Rattle.least_search.specs.declared.waiting.Waiter.{Waiter}

-- By sum, then by what is still to be paid, and then by number.
abbrev pub waiter_cmp : Waiter → Waiter → Ordering
waiter_cmp a b = ordering_then (nat_cmp a.sum b.sum) (ordering_then (nat_cmp a.rest b.rest) (nat_cmp a.number b.number))

-- What has the lesser sum is the greater.
abbrev pub turned_cmp : Reverse Waiter → Reverse Waiter → Ordering
turned_cmp a b = waiter_cmp b.0 a.0

-- What waits.
abbrev pub waiters_of : List (Reverse Waiter) → List Waiter
waiters_of turned = map (λ (waiter : Reverse Waiter). waiter.0) turned
