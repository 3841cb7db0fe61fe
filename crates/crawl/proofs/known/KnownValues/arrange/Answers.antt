use Rattle.std.proofs.Common.{refl}
use Rattle.std.proofs.lemmas.List.Filters.{dedup_is}
use Rattle.crawl.proofs.Marking.{arranged, arranged_up}
use Rattle.crawl.proofs.known.KnownValues.arrange.Goals as goal

pub returns : goal.returns
returns c =
    let is = dedup_is _ _ _ c.dedup.ensures.filtered in
    record {
      all = refl;
      same = arranged c.args.self.now.fresh.items c.sort_unstable.new.self.items c.dedup.new.self.items c.sort_unstable.ensures.permutation c.sort_unstable.ensures.sorted is;
      ascend = arranged_up c.args.self.now.fresh.items c.sort_unstable.new.self.items c.dedup.new.self.items c.sort_unstable.ensures.permutation c.sort_unstable.ensures.sorted is;
    }
