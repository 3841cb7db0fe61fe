use Rattle.source_trait.proofs.Indexing.{chains_in_place, codes_kept}
use Rattle.source_trait.proofs.index.chains.Goals as goal

pub loop-number-preserved : goal.loop-number-preserved
loop-number-preserved c =
    let loop = c.loop-number in
    record {
      made = chains_in_place c.args.codes.items c.args.count loop.number loop.heads.items loop.next.items c.index-code.result.now c.index.result.now
          c.loop-number-test.true c.requires loop.invariant.made loop.invariant.kept c.index-code.ensures c.index.ensures;
      kept = codes_kept c.args.codes.items loop.next.items loop.number c.index.result.now loop.invariant.kept;
    }
