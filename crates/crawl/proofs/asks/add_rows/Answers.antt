use Rattle.std.proofs.Common.{◌≡◌, ◌∙◌, ◌+◌, ◌-◌, ◌++◌, [], length, map, sym, ap, subst, arith}
use Rattle.std.proofs.lemmas.Option.{slice_get_within}
use Rattle.crawl_rounds.specs.Rows.{rows_of}
use Rattle.crawl.specs.Pieces.{block_with, left_in}
use Rattle.crawl.proofs.Cutting.{blocks_through, block_cut, block_through}
use Rattle.crawl.proofs.asks.add_rows.Goals as goal

pub returns-in_default-clause-parts : goal.returns-in_default-clause-parts
returns-in_default-clause-parts c =
    let block = block_with c.args.kind.now (c.args.rel, c.args.inputs.now) c.args.all.now c.args.fresh.now in
    let front = c.args.asks.now.list.items in
    let count : c.len-count.result - 1 ≡ length c.args.inputs.now - 1 = ap (λ n. n - 1) c.len-count.ensures in
    subst (λ n. c.loop-begin.asks.list.items ++ [] ≡ front ++ left_in (map block (rows_of c.args.first c.args.all.now n)) c.args.cursor.now.row c.args.cursor.now.value) count
    (blocks_through block (rows_of c.args.first c.args.all.now (c.len-count.result - 1)) c.loop-begin.asks.list.items _ c.loop-begin.cursor.row c.loop-begin.cursor.value c.loop-begin.invariant.parts
    (sym c.in_ok-begin.ensures ∙ c.in_default.is))

pub returns-then-len-ge-PIECE-clause-parts : goal.returns-then-len-ge-PIECE-clause-parts
returns-then-len-ge-PIECE-clause-parts c =
    let block = block_with c.args.kind.now (c.args.rel, c.args.inputs.now) c.args.all.now c.args.fresh.now in
    let front = c.args.asks.now.list.items in
    let now = c.add_block.new.asks.list.items in
    let count : c.len-count.result - 1 ≡ length c.args.inputs.now - 1 = ap (λ n. n - 1) c.len-count.ensures in
    subst (λ n. now ++ left_in (map block (rows_of c.args.first c.args.all.now n)) c.loop-begin.cursor.row c.in_ok-cursor.field-0
    ≡ front ++ left_in (map block (rows_of c.args.first c.args.all.now n)) c.args.cursor.now.row c.args.cursor.now.value) count
    (block_cut block (rows_of c.args.first c.args.all.now (c.len-count.result - 1)) c.loop-begin.asks.list.items _ c.loop-begin.cursor.row c.loop-begin.cursor.value c.loop-begin.invariant.parts
    c.in-Some.begin (sym c.in_ok-begin.ensures ∙ c.in-Some.is) now c.in_ok-cursor.field-0 c.in_ok-cursor.ensures.parts)

pub loop-begin-smaller : goal.loop-begin-smaller
loop-begin-smaller c =
    let rows = rows_of c.args.first c.args.all.now (c.len-count.result - 1) in
    let low = slice_get_within rows c.loop-begin.cursor.row c.in-Some.begin (sym c.in_ok-begin.ensures ∙ c.in-Some.is) in
    let next : c.in-Some-checked_add.next ≡ c.loop-begin.cursor.row + 1 = c.in-Some-checked_add.ensures.1 in
    omega (arith, low, next)

pub loop-begin-preserved : goal.loop-begin-preserved
loop-begin-preserved c =
    let block = block_with c.args.kind.now (c.args.rel, c.args.inputs.now) c.args.all.now c.args.fresh.now in
    let next : c.in-Some-checked_add.next ≡ c.loop-begin.cursor.row + 1 = c.in-Some-checked_add.ensures.1 in
    record {
      class = c.loop-begin.invariant.class;
      parts = block_through block (rows_of c.args.first c.args.all.now (c.len-count.result - 1)) c.loop-begin.asks.list.items _ c.loop-begin.cursor.row c.loop-begin.cursor.value c.loop-begin.invariant.parts
          c.in-Some.begin (sym c.in_ok-begin.ensures ∙ c.in-Some.is) c.add_block.new.asks.list.items c.in_ok-cursor.field-0 c.in_ok-cursor.ensures.parts
          (c.in_ok-cursor.ensures.through (omega arith)) c.in-Some-checked_add.next next;
    }
