use Rattle.std.proofs.lemmas.List.Filters.{dedup_is}
use Rattle.crawl.proofs.Marking.{arranged, arranged_up}
use Rattle.crawl.proofs.found.FoundValues.arrange.Goals as goal

pub returns : goal.returns
returns c =
    let is = dedup_is _ _ _ c.dedup.ensures.filtered in
    let given = c.args.self.now.list.items in
    let sorted = c.sort_unstable.new.self.items in
    let sort = c.sort_unstable.ensures in
    record {
      same = arranged given sorted c.dedup.new.self.items sort.permutation sort.sorted is;
      ascend = arranged_up given sorted c.dedup.new.self.items sort.permutation sort.sorted is;
    }
