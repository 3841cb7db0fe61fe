use Rattle.std.proofs.Common.{ℕ, List, subst}
use Rattle.std.specs.Prelude.{Contains, Ok, Err}
use Rattle.std.proofs.lemmas.Result.{err_from_is_err_and}
use Rattle.crawl.proofs.CrawledLanes.{of_schema, reachable_there, attaches_reachable, some_lane, each_attached, went_on, not_begun, no_room}
use Rattle.crawl.proofs.lanes.crawl.Goals as goal

pub returns-in-Err : goal.returns-in-Err
returns-in-Err g c = record { crawls = no_room c.args.schema.now g.S.Source.seen c.args.cap c.args.lanes.now }

pub attach_needed-requires-clause-there : goal.attach_needed-requires-clause-there
attach_needed-requires-clause-there g c κs within = λ rel among.
    reachable_there c.args.schema.now rel ((of_schema c.args.schema.now c.as_slice.result.now c.as_slice.ensures c.in-Ok.rels.items c.in-Ok.ensures.exactly rel).0 (subst (λ (l : List ℕ). Contains l rel) c.as_slice-needed.ensures.value among))

pub crawl_attached-requires-clause-some : goal.crawl_attached-requires-clause-some
crawl_attached-requires-clause-some g c κs within =
    some_lane c.args.schema.now g.S.Source.seen c.args.lanes.now c.attach_needed.new.lanes
    (attaches_reachable c.args.schema.now g.S.Source.seen c.in-Ok.rels.items c.as_slice-needed.result.now c.as_slice-needed.ensures.value
    (of_schema c.args.schema.now c.as_slice.result.now c.as_slice.ensures c.in-Ok.rels.items c.in-Ok.ensures.exactly) c.args.lanes.now c.attach_needed.new.lanes (Ok tt) c.in_ok-attach_needed.ensures.attaches)

pub crawl_attached-requires-clause-attached : goal.crawl_attached-requires-clause-attached
crawl_attached-requires-clause-attached g c κs within =
    each_attached c.args.schema.now g.S.Source.seen c.args.lanes.now c.attach_needed.new.lanes
    (attaches_reachable c.args.schema.now g.S.Source.seen c.in-Ok.rels.items c.as_slice-needed.result.now c.as_slice-needed.ensures.value
    (of_schema c.args.schema.now c.as_slice.result.now c.as_slice.ensures c.in-Ok.rels.items c.in-Ok.ensures.exactly) c.args.lanes.now c.attach_needed.new.lanes (Ok tt) c.in_ok-attach_needed.ensures.attaches)

pub returns : goal.returns
returns g c = record {
  crawls = went_on c.args.schema.now g.S.Source.seen c.args.cap c.args.lanes.now c.attach_needed.new.lanes c.crawl_attached.new.lanes
      c.crawl_attached.result
      (attaches_reachable c.args.schema.now g.S.Source.seen c.in-Ok.rels.items c.as_slice-needed.result.now c.as_slice-needed.ensures.value
      (of_schema c.args.schema.now c.as_slice.result.now c.as_slice.ensures c.in-Ok.rels.items c.in-Ok.ensures.exactly) c.args.lanes.now c.attach_needed.new.lanes (Ok tt) c.in_ok-attach_needed.ensures.attaches)
      c.in_ok-attach_needed.ensures.lanes c.crawl_attached.ensures.crawled c.crawl_attached.ensures.once c.crawl_attached.ensures.fits c.crawl_attached.ensures.integers c.crawl_attached.ensures.stops c.crawl_attached.ensures.idle;
}

pub returns-in_err-attach_needed : goal.returns-in_err-attach_needed
returns-in_err-attach_needed g c = let told = err_from_is_err_and c.from_residual.result c.from_residual.ensures.1 in record {
  crawls = rw (told.1, told.2) (not_begun c.args.schema.now g.S.Source.seen c.args.cap c.args.lanes.now c.attach_needed.new.lanes c.in_err-attach_needed.field-0.0
      (attaches_reachable c.args.schema.now g.S.Source.seen c.in-Ok.rels.items c.as_slice-needed.result.now c.as_slice-needed.ensures.value
      (of_schema c.args.schema.now c.as_slice.result.now c.as_slice.ensures c.in-Ok.rels.items c.in-Ok.ensures.exactly) c.args.lanes.now c.attach_needed.new.lanes (Err c.in_err-attach_needed.field-0.0) c.in_err-attach_needed.ensures.attaches)
      c.in_err-attach_needed.ensures.lanes);
}
