use Rattle.std.proofs.lemmas.Result.{on_ok_weaker}
use Rattle.tgd_reader.proofs.Writing.{listing_written}
use Rattle.tgd_reader.proofs.pieces.listing.Goals as goal

pub returns-clause-written : goal.returns-clause-written
returns-clause-written c = on_ok_weaker c.mark-2.result
    (λ closed. listing_written c.args.out.now.items c.name.new.out.items c.mark.new.out.items c.names.new.out.items c.mark-2.new.out.items c.args.relation.now c.args.columns.now c.in_ok-name.ensures.written c.in_ok-mark.ensures.written c.in_ok-names.ensures.written closed)
    c.mark-2.ensures.written
