use Rattle.std.proofs.Common.{◌≡◌, arith}
use Rattle.source_trait.specs.Tables.{bad_row}
use Rattle.source_trait.proofs.Tables.{none_bad}
use Rattle.source_trait.proofs.memory_source.offered_rows.Goals as goal

pub returns-in-Ok-clause-fit : goal.returns-in-Ok-clause-fit
returns-in-Ok-clause-fit c =
    let bad : bad_row c.args.arity 1 c.in-Some.rows.now ≡ 0 = grind (arith, c.first_bad-number.ensures, c.if-number-gt0.false, c.as_slice.ensures) in
    rw (c.in-Ok.ensures, c.as_slice-in-Some.ensures) (none_bad c.args.arity 0 c.in-Some.rows.now bad)
