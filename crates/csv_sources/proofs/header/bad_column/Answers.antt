use Rattle.std.proofs.Common.{◌≡◌, ◌∙◌, sym}
use Rattle.csv.specs.Records.{fields_of}
use Rattle.csv_sources.specs.DataFile.{times_in}
use Rattle.csv_sources.proofs.Fields.{bad_here}
use Rattle.csv_sources.proofs.header.bad_column.Goals as goal

pub returns-then-times_in-ne1 : goal.returns-then-times_in-ne1
returns-then-times_in-ne1 c =
    let named : times_in (fields_of c.args.header.now) c.as_bytes.result.now ≡ c.times_in.result = sym c.times_in.ensures in
    sym (c.loop-left.invariant.same
    ∙ bad_here (fields_of c.args.header.now) c.loop-left.column c.loop-left.left.now c.as_bytes.result.now _ c.in-len1-up.len_at_least (c.as_bytes.ensures ∙ c.name-item.is)
    (λ once. c.if-times_in-ne1.true (sym named ∙ once)))
