use Rattle.std.proofs.Common.{length, ap, arith}
use Rattle.tgd_reader.proofs.Counts.{declared_few}
use Rattle.tgd_reader.proofs.Named.{declared_named, declared_sorted}
use Rattle.tgd_reader.proofs.read.bytes_schema.Goals as goal

pub declared_schema-requires-clause-few : goal.declared_schema-requires-clause-few
declared_schema-requires-clause-few c =
    let r = declared_few c.in-Ok.text.now c.in_ok-declared.declared c.in_ok-declared.ensures.found in
    let e = ap length c.in-Ok.ensures.text in
    omega (arith, r.1, e, c.requires)

pub declared_schema-requires-clause-lines : goal.declared_schema-requires-clause-lines
declared_schema-requires-clause-lines c = (declared_few c.in-Ok.text.now c.in_ok-declared.declared c.in_ok-declared.ensures.found).0

pub declared_schema-requires-clause-named : goal.declared_schema-requires-clause-named
declared_schema-requires-clause-named c = declared_named c.in-Ok.text.now c.in_ok-declared.declared c.in_ok-declared.ensures.found

pub declared_schema-requires-clause-sorts : goal.declared_schema-requires-clause-sorts
declared_schema-requires-clause-sorts c = declared_sorted c.in-Ok.text.now c.in_ok-declared.declared c.in_ok-declared.ensures.found
