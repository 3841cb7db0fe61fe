use Rattle.std.proofs.Common.{sym, nat_eq, map, arith}
use Rattle.crawl_rounds.specs.Lent.{lent_class}
use Rattle.crawl.proofs.Marking.{fresh_are}
use Rattle.crawl.proofs.Wanting.{fresh_few, wanted_is}
use Rattle.crawl.proofs.round.count_wanted.Goals as goal

pub returns-then-known-gt-MOST_VALUES-clause-fresh : goal.returns-then-known-gt-MOST_VALUES-clause-fresh
returns-then-known-gt-MOST_VALUES-clause-fresh c = sym (fresh_are c.args.progress.now.known c.len-known.ensures.ordered c.requires)

pub count_round-requires : goal.count_round-requires
count_round-requires c =
    let few = fresh_few c.args.progress.now.known c.len-known.ensures.ordered c.requires in
    let all = c.len-known.ensures.len in
    let new = c.fresh_len-fresh.ensures in
    omega (arith, few, all, new)

pub returns-clause-count : goal.returns-clause-count
returns-clause-count c = wanted_is c.args.progress.now.known c.len-known.ensures.ordered c.requires
    (nat_eq c.args.progress.now.rounds 0) (map lent_class c.args.classes.now) c.len-known.result c.fresh_len-fresh.result c.count_round.result c.len-known.ensures.len c.fresh_len-fresh.ensures c.count_round.ensures

pub returns-clause-fresh : goal.returns-clause-fresh
returns-clause-fresh c = sym (fresh_are c.args.progress.now.known c.len-known.ensures.ordered c.requires)
