use Rattle.std.proofs.lemmas.List.Filters.{dedup_is}
use Rattle.std.proofs.lemmas.List.Kept.{Contains-dedup_nat, Contains-from_dedup}
use Rattle.std.proofs.lemmas.List.Sorted.{Contains-permutation, IsPermutation-sym}
use Rattle.std.proofs.lemmas.Map.Keys.{IsStrictlyIncreasing-dedup}
use Rattle.plan_batches.proofs.needs.all_accessed.Goals as goal

pub returns-clause-ascends : goal.returns-clause-ascends
returns-clause-ascends c = rw (dedup_is _ _ _ c.dedup.ensures.filtered) (IsStrictlyIncreasing-dedup _ c.sort_unstable.ensures.sorted)

pub returns-clause-exactly : goal.returns-clause-exactly
returns-clause-exactly c =
    let is = dedup_is _ _ _ c.dedup.ensures.filtered in
    let moved = c.sort_unstable.ensures.permutation in
    λ rel. (
      (λ h. (c.in_ok-rels.ensures rel).0 (Contains-permutation _ _ rel (IsPermutation-sym _ _ moved) (Contains-from_dedup _ _ rel (rw is at h)))),
      (λ h. rw is (Contains-dedup_nat _ rel (Contains-permutation _ _ rel moved ((c.in_ok-rels.ensures rel).1 h)))),
    )
