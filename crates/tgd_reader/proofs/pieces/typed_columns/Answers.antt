use Rattle.std.proofs.Common.{◌<◌, length, rules}
use Rattle.tgd_reader.proofs.Writing.{no_sorts, nothing_written}
use Rattle.tgd_reader.proofs.pieces.typed_columns.Goals as goal

pub returns-in_default-2-clause-written : goal.returns-in_default-2-clause-written
returns-in_default-2-clause-written c =
    let columns = c.args.columns.now in
    let sorts = c.args.sorts.now in
    let few : length sorts < 1 = search rules in
    nothing_written c.args.out.now.items columns sorts (no_sorts columns sorts few)
