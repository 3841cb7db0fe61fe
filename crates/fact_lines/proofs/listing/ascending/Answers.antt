use Rattle.std.proofs.lemmas.List.Filters.{dedup_is}
use Rattle.fact_lines.specs.Lent.{lent_fact}
use Rattle.fact_lines.proofs.Ordering.{listing_of}
use Rattle.fact_lines.proofs.listing.ascending.Goals as goal

pub returns : goal.returns
returns c =
    listing_of lent_fact c.args.facts.now _ _ _ c.in_ok-listing.ensures c.sort_unstable.ensures.permutation c.sort_unstable.ensures.sorted (dedup_is _ _ _ c.dedup.ensures.filtered)
