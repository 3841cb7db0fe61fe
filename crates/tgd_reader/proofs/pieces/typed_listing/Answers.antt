use Rattle.std.proofs.lemmas.Result.{on_ok_weaker}
use Rattle.tgd_reader.specs.Printed.{with_sorts, column_pieces}
use Rattle.tgd_reader.proofs.Writing.{brackets_written}
use Rattle.tgd_reader.proofs.pieces.typed_listing.Goals as goal

pub returns-clause-written : goal.returns-clause-written
returns-clause-written c = on_ok_weaker c.mark-2.result
    (λ closed. brackets_written column_pieces c.args.relation.now (with_sorts c.args.columns.now c.args.sorts.now) c.args.out.now.items c.name.new.out.items c.mark.new.out.items c.typed_columns.new.out.items c.mark-2.new.out.items
    c.in_ok-name.ensures.written c.in_ok-mark.ensures.written c.in_ok-typed_columns.ensures.written closed)
    c.mark-2.ensures.written
