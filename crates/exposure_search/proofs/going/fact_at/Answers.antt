use Rattle.std.proofs.Common.{[]}
use Rattle.std.proofs.lemmas.List.{get_or_read}
use Rattle.exposure_search.proofs.going.fact_at.Goals as goal

pub returns : goal.returns
returns c = get_or_read c.args.facts.now c.args.number c.index-facts-number.result c.requires c.index-facts-number.is (record { rel = 0; vals = [] })
