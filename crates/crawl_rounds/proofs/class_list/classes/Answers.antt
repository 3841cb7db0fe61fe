use Rattle.std.proofs.lemmas.List.Filters.{dedup_is}
use Rattle.crawl_rounds.specs.Lent.{lent_class}
use Rattle.crawl_rounds.proofs.ClassOrder.{classes_of}
use Rattle.crawl_rounds.proofs.class_list.classes.Goals as goal

pub returns : goal.returns
returns c =
    classes_of lent_class c.args.methods.now _ _ _ c.in_ok-found.ensures c.sort_unstable.ensures.permutation c.sort_unstable.ensures.sorted (dedup_is _ _ _ c.dedup.ensures.filtered)
