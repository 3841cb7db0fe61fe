use Rattle.std.proofs.Common.{◌<◌, length, rules}
use Rattle.tgd_reader.specs.Printed.{with_sorts}
use Rattle.tgd_reader.proofs.Writing.{no_sorts, all_columns}
use Rattle.tgd_reader.proofs.pieces.further_columns.Goals as goal

pub returns-in_default-2-clause-written : goal.returns-in_default-2-clause-written
returns-in_default-2-clause-written c =
    let left = c.loop-left.left.now in
    let others = c.loop-left.others.now in
    let few : length others < 1 = search rules in
    all_columns c.args.out.now.items c.loop-left.out.items (with_sorts c.args.columns.now c.args.sorts.now) (with_sorts left others) (no_sorts left others few) c.loop-left.invariant.written
