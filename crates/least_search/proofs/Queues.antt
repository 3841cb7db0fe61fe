-- A heap, after a push and after a pop.
use Rattle.std.proofs.Common.{◌≡◌, ◌⊎◌, ◌≤◌, List, [], ◌∷◌, false, refl, subst, ⊎_elim, arith, Contains}
use Rattle.std.specs.List.Sorted.{IsPermutation}
use Rattle.std.specs.declared.cmp.Ordering.{Ordering}
use Rattle.std.specs.declared.cmp.Ordering.TheVariants.{Less, Equal, Greater}
use Rattle.std.specs.declared.cmp.Reverse.{Reverse}
use Rattle.std.specs.Ordering.{nat_cmp, is_lt, ordering_then}
use Rattle.std.specs.BinaryHeap.{IsUpperBound}
use Rattle.std.proofs.lemmas.List.Sorted.{IsPermutation-map, IsPermutation-sym, Contains-permutation}
use Rattle.std.proofs.lemmas.Map.Keys.{ge_from_not_lt}
use Rattle.lists.proofs.Members.{contains_here, contains_there, contains_cases}
use Rattle.least_search.specs.declared.waiting.Waiter.{Waiter}
use Rattle.least_search.specs.Queues.{turned_cmp, waiters_of}

-- what waits stays, in another order
permuted : (before after : List (Reverse Waiter)) (waiter : Waiter) → IsPermutation before after → Contains (waiters_of before) waiter → Contains (waiters_of after) waiter
permuted before after waiter same there =
    Contains-permutation (waiters_of before) (waiters_of after) waiter (IsPermutation-map (λ (w : Reverse Waiter). w.0) before after same) there

-- what is in a heap and one waiter more
module _ (waiter : Reverse Waiter) (before after : List (Reverse Waiter)) (same : IsPermutation (waiter ∷ before) after) where
  pub push_only : (other : Waiter) → Contains (waiters_of after) other → (waiter.0 ≡ other) ⊎ Contains (waiters_of before) other
  push_only other there = contains_cases waiter.0 (waiters_of before) other (permuted after (waiter ∷ before) other (IsPermutation-sym (waiter ∷ before) after same) there)

  pub push_waiter : Contains (waiters_of after) waiter.0
  push_waiter = permuted (waiter ∷ before) after waiter.0 same (contains_here waiter.0 (waiters_of before))

  pub push_kept : (other : Waiter) → Contains (waiters_of before) other → Contains (waiters_of after) other
  push_kept other there = permuted (waiter ∷ before) after other same (contains_there waiter.0 (waiters_of before) other there)

-- what is in a heap without the waiter that was taken
module _ (waiter : Reverse Waiter) (before after : List (Reverse Waiter)) (same : IsPermutation before (waiter ∷ after)) where
  pub pop_stay : (other : Waiter) → Contains (waiters_of before) other → (waiter.0 ≡ other) ⊎ Contains (waiters_of after) other
  pop_stay other there = contains_cases waiter.0 (waiters_of after) other (permuted before (waiter ∷ after) other same there)

  pub pop_only : (other : Waiter) → Contains (waiters_of after) other → Contains (waiters_of before) other
  pop_only other there = permuted (waiter ∷ after) before other (IsPermutation-sym before (waiter ∷ after) same) (contains_there waiter.0 (waiters_of after) other there)

-- what is not turned below another has no greater sum
not_dearer : (waiter other : Waiter) → is_lt (turned_cmp (record { 0 = waiter }) (record { 0 = other })) ≡ false → waiter.sum ≤ other.sum
not_dearer waiter other low = ge_from_not_lt other.sum waiter.sum (by (nat_cmp other.sum waiter.sum) low)
  where
    by : (o : Ordering) → is_lt (ordering_then o (ordering_then (nat_cmp other.rest waiter.rest) (nat_cmp other.number waiter.number))) ≡ false → is_lt o ≡ false
    by Less e = e
    by Equal e = refl
    by Greater e = refl

-- no waiter of the heap has a lesser sum than one that is not below any
pub pop_least : (waiter : Reverse Waiter) (after : List (Reverse Waiter)) → IsUpperBound turned_cmp waiter after → (other : Waiter) → Contains (waiters_of after) other → waiter.0.sum ≤ other.sum
pop_least waiter [] above other there = absurd (omega arith)
pop_least waiter (first ∷ after) above other there =
    ⊎_elim (λ e. subst (λ (x : Waiter). waiter.0.sum ≤ x.sum) e (not_dearer waiter.0 first.0 above.0))
    (λ later. pop_least waiter after above.1 other later) (contains_cases first.0 (waiters_of after) other there)
