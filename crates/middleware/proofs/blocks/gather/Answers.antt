use Rattle.std.proofs.Common.{List, subst, sym}
use Rattle.middleware.specs.Blocks.{Gathers}
use Rattle.middleware.specs.declared.blocks.Block.{Block}
use Rattle.middleware.proofs.Gathering.{gathers_none, gathers_rest, gathers_join, last_below}
use Rattle.middleware.proofs.blocks.gather.Goals as goal

pub loop-block-init : goal.loop-block-init
loop-block-init c = subst (λ (x : List Block). Gathers c.args.count c.args.columns.now c.args.table c.args.blocks.items c.args.table c.args.blocks.items x) (sym c.new-rest.ensures.items)
    (gathers_none c.args.count c.args.columns.now c.args.table c.args.blocks.items c.requires.table c.requires.blocks)

pub loop-block-preserved-in-Continue-1 : goal.loop-block-preserved-in-Continue-1
loop-block-preserved-in-Continue-1 c =
    let l = c.loop-block in
    let g = subst (λ (x : List Block). Gathers c.args.count c.args.columns.now c.args.table c.args.blocks.items l.both x l.rest.items) c.in-Some.ensures.items l.invariant in
    subst (λ (x : List Block). Gathers c.args.count c.args.columns.now c.args.table c.args.blocks.items l.both c.pop.new.self.items x) (sym c.in_ok-push.ensures.items)
    (gathers_rest c.args.count c.args.columns.now c.args.table c.args.blocks.items l.both c.pop.new.self.items l.rest.items c.in-Some.block g (c.stays.ensures.some c.if-stays.true) (c.stays.ensures.lacks c.if-stays.true))

pub join_blocks-requires-clause-block : goal.join_blocks-requires-clause-block
join_blocks-requires-clause-block c =
    let l = c.loop-block in
    last_below c.args.count c.args.columns.now c.args.table c.args.blocks.items l.both c.pop.new.self.items l.rest.items c.in-Some.block
    (subst (λ (x : List Block). Gathers c.args.count c.args.columns.now c.args.table c.args.blocks.items l.both x l.rest.items) c.in-Some.ensures.items l.invariant)

pub loop-block-preserved : goal.loop-block-preserved
loop-block-preserved c =
    let l = c.loop-block in
    gathers_join c.args.count c.args.columns.now c.args.table c.args.blocks.items l.both c.pop.new.self.items l.rest.items c.in-Some.block
    (subst (λ (x : List Block). Gathers c.args.count c.args.columns.now c.args.table c.args.blocks.items l.both x l.rest.items) c.in-Some.ensures.items l.invariant)
    c.in_ok-both.both c.in_ok-both.ensures
