use Rattle.std.proofs.lemmas.List.Filters.{dedup_is}
use Rattle.homomorphism.proofs.Pairs.{kept_once, kept_same}
use Rattle.homomorphism.proofs.instance.distinct_grounds.Goals as goal

pub returns-clause-same : goal.returns-clause-same
returns-clause-same c = kept_same c.args.instance _ _ _ _ c.in_ok-rows.ensures c.sort_unstable.ensures.permutation (dedup_is _ _ _ c.dedup.ensures.filtered) c.in_ok-grounds.ensures

pub returns-clause-once : goal.returns-clause-once
returns-clause-once c = kept_once _ _ _ c.sort_unstable.ensures.sorted (dedup_is _ _ _ c.dedup.ensures.filtered) c.in_ok-grounds.ensures
