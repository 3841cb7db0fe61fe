-- A list that is sorted and then has no doubles.
use Rattle.std.proofs.Common.{◌≡◌, ◌↔◌, sym, subst, ℕ, List, [], nat_eq}
use Rattle.std.specs.Prelude.{Contains}
use Rattle.std.specs.Ordering.{nat_cmp}
use Rattle.std.specs.List.Retain.{IsFiltered, DiffersFromLast}
use Rattle.std.specs.List.Sorted.{IsSorted, IsPermutation, IsStrictlyIncreasing}
use Rattle.std.proofs.lemmas.List.Filters.{dedup_is}
use Rattle.std.proofs.lemmas.List.Kept.{Contains-dedup_nat, Contains-from_dedup}
use Rattle.std.proofs.lemmas.List.Sorted.{Contains-permutation, IsPermutation-sym}
use Rattle.std.proofs.lemmas.Map.Keys.{IsStrictlyIncreasing-dedup}

pub arranged_ascend : (sorted arranged : List ℕ) → IsSorted nat_cmp sorted → IsFiltered (DiffersFromLast nat_eq) [] sorted arranged → IsStrictlyIncreasing arranged
arranged_ascend sorted arranged ascend filtered = let is = dedup_is _ _ _ filtered in rw is (IsStrictlyIncreasing-dedup _ ascend)

-- it has the members that it had before
pub arranged_same : (all given sorted arranged : List ℕ) → all ≡ given → IsPermutation all sorted → IsFiltered (DiffersFromLast nat_eq) [] sorted arranged → (label : ℕ) → Contains arranged label ↔ Contains given label
arranged_same all given sorted arranged e moved filtered label =
    let is = dedup_is _ _ _ filtered in (
      (λ h. subst (λ l. Contains l label) e (Contains-permutation _ _ label (IsPermutation-sym _ _ moved) (Contains-from_dedup _ _ label (rw is at h)))),
      (λ h. rw is (Contains-dedup_nat _ label (Contains-permutation _ _ label moved (subst (λ l. Contains l label) (sym e) h)))),
    )
