use Rattle.std.proofs.Common.{◌∙◌}
use Rattle.lists.proofs.Members.{map_got}
use Rattle.crawl.specs.Pieces.{ends_of, block_with}
use Rattle.crawl.proofs.Cutting.{one_cut}
use Rattle.crawl.proofs.asks.add_block.Goals as goal

pub returns-then-len-ge-PIECE-clause-parts : goal.returns-then-len-ge-PIECE-clause-parts
returns-then-len-ge-PIECE-clause-parts c =
    let block = block_with c.args.kind.now (c.args.rel, c.args.inputs.now) c.args.all.now c.args.fresh.now c.args.begin.now in
    one_cut c.loop-number.asks.list.items c.add_longer.new.self.list.items block c.loop-number.number _
    (map_got _ (ends_of c.args.all.now c.args.fresh.now c.args.begin.now.1) c.loop-number.number c.end_at-end.result.now c.end_at-end.ensures)
    c.in_ok-add_longer.ensures
    ∙ c.loop-number.invariant

pub loop-number-preserved : goal.loop-number-preserved
loop-number-preserved c =
    let block = block_with c.args.kind.now (c.args.rel, c.args.inputs.now) c.args.all.now c.args.fresh.now c.args.begin.now in
    one_cut c.loop-number.asks.list.items c.add_longer.new.self.list.items block c.loop-number.number _
    (map_got _ (ends_of c.args.all.now c.args.fresh.now c.args.begin.now.1) c.loop-number.number c.end_at-end.result.now c.end_at-end.ensures)
    c.in_ok-add_longer.ensures
    ∙ c.loop-number.invariant
