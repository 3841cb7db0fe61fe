use Rattle.std.proofs.Common.{sym, arith, true, false, rules}
use Rattle.csv.specs.Records.{fields_of}
use Rattle.csv_sources.proofs.Fields.{field_below, place_step, place_end}
use Rattle.csv_sources.proofs.header.place_in.Goals as goal

pub returns-then-eq : goal.returns-then-eq
returns-then-eq c =
    let at = place_step (fields_of c.args.header.now) c.loop-field.place c.in-Some.field.now c.args.name.now true (sym c.in-Some.ensures.value) (search rules) in
    omega (arith, at, c.loop-field.invariant)

pub loop-field-smaller : goal.loop-field-smaller
loop-field-smaller c = omega (arith, field_below (fields_of c.args.header.now) c.loop-field.place c.in-Some.field.now (sym c.in-Some.ensures.value))

pub loop-field-preserved : goal.loop-field-preserved
loop-field-preserved c =
    let at = place_step (fields_of c.args.header.now) c.loop-field.place c.in-Some.field.now c.args.name.now false (sym c.in-Some.ensures.value) (search rules) in
    omega (arith, at, c.loop-field.invariant)

pub returns : goal.returns
returns c =
    let at = place_end (fields_of c.args.header.now) c.loop-field.place c.args.name.now (sym c.in_default.ensures.value) in
    omega (arith, at, c.loop-field.invariant)
