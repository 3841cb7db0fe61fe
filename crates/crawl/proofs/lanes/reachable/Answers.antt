use Rattle.std.proofs.lemmas.List.Filters.{dedup_is}
use Rattle.std.proofs.lemmas.List.Kept.{Contains-dedup_nat, Contains-from_dedup}
use Rattle.std.proofs.lemmas.List.Sorted.{Contains-permutation, IsPermutation-sym}
use Rattle.std.proofs.lemmas.Map.Keys.{IsStrictlyIncreasing-dedup}
use Rattle.crawl.proofs.CrawledLanes.{relations_exactly}
use Rattle.crawl.proofs.lanes.reachable.Goals as goal

pub returns-clause-ascends : goal.returns-clause-ascends
returns-clause-ascends c = rw (dedup_is _ _ _ c.dedup.ensures.filtered) (IsStrictlyIncreasing-dedup _ c.sort_unstable.ensures.sorted)

pub returns-clause-exactly : goal.returns-clause-exactly
returns-clause-exactly c =
    let is = dedup_is _ _ _ c.dedup.ensures.filtered in
    let moved = c.sort_unstable.ensures.permutation in
    relations_exactly c.args.methods.now c.in_ok-rels.rels.items c.dedup.new.self.items c.in_ok-rels.ensures (λ x. (
      (λ h. Contains-permutation _ _ x (IsPermutation-sym _ _ moved) (Contains-from_dedup _ _ x (rw is at h))),
      (λ h. rw is (Contains-dedup_nat _ x (Contains-permutation _ _ x moved h))),
    ))
