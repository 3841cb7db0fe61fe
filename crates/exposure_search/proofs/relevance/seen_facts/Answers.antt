use Rattle.std.proofs.Common.{◌∙◌}
use Rattle.exposure_search.specs.Relevance.{IsImageAmong}
use Rattle.exposure_search.proofs.Following.{waits_more, kinds_marked}
use Rattle.exposure_search.proofs.relevance.seen_facts.Goals as goal

pub returns-clause-long : goal.returns-clause-long
returns-clause-long c = c.in_ok-reach_images.ensures.grows.long ∙ c.in_ok-marking.ensures.long

pub returns-clause-wanted : goal.returns-clause-wanted
returns-clause-wanted c number fact at wants = c.in_ok-reach_images.ensures.grows.stays number (c.in_ok-marking.ensures.wanted number fact at wants)

pub returns-clause-images : goal.returns-clause-images
returns-clause-images c =
    kinds_marked c.args.facts.now (IsImageAmong c.args.queries.now c.args.head.now) c.in_ok-marking.marking c.reach_images.new.self c.in_ok-marking.ensures.long c.in_ok-reach_images.ensures.reached

pub returns-clause-wait : goal.returns-clause-wait
returns-clause-wait c = waits_more c.in_ok-marking.marking c.reach_images.new.self c.in_ok-marking.ensures.wait c.in_ok-reach_images.ensures.grows
