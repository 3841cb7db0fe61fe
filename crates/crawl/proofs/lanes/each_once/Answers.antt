use Rattle.std.proofs.Common.{◌↔◌, ◌∙◌, List, sym, subst}
use Rattle.std.specs.Prelude.{Contains}
use Rattle.std.proofs.lemmas.List.Filters.{dedup_is}
use Rattle.meaning.specs.declared.types.Fact.{Fact}
use Rattle.meaning.specs.Search.{AreDistinct}
use Rattle.crawl.specs.Progress.{facts_of}
use Rattle.crawl.proofs.Once.{once, members}
use Rattle.crawl.proofs.lanes.each_once.Goals as goal

pub returns : goal.returns
returns c =
    let are = c.from_vec.ensures ∙ c.in_ok-facts.ensures in
    let is = dedup_is _ _ _ c.dedup.ensures.filtered in
    record {
      facts = subst (λ (l : List Fact). (fact : Fact) → Contains l fact ↔ Contains (facts_of c.args.progress) fact) (sym are)
          (members c.args.progress.received.items c.sort_unstable.new.self.items c.dedup.new.self.items c.sort_unstable.ensures.permutation c.sort_unstable.ensures.sorted is);
      once = subst (λ (l : List Fact). AreDistinct l) (sym are)
          (once c.args.progress.received.items c.sort_unstable.new.self.items c.dedup.new.self.items c.sort_unstable.ensures.permutation c.sort_unstable.ensures.sorted is);
    }
