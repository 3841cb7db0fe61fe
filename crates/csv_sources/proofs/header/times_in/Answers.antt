use Rattle.std.proofs.Common.{sym, arith, true, false, rules}
use Rattle.csv.specs.Records.{fields_of}
use Rattle.csv_sources.proofs.Fields.{field_below, times_step, times_end}
use Rattle.csv_sources.proofs.header.times_in.Goals as goal
use Rattle.csv_sources.proofs.header.times_in.Goals.{then-eq, else-eq}

pub loop-field-smaller : goal.loop-field-smaller
loop-field-smaller c = omega (arith, field_below (fields_of c.args.header.now) c.loop-field.place c.in-Some.field.now (sym c.in-Some.ensures.value))

pub loop-field-preserved : goal.loop-field-preserved
loop-field-preserved c = elim c.if-eq.branch [
  | then-eq w ↦
      let at = times_step (fields_of c.args.header.now) c.loop-field.place c.in-Some.field.now c.args.name.now true (sym c.in-Some.ensures.value) (search rules) in
      record { total = omega (arith, at, c.loop-field.invariant.total, w.times-is); few = omega (arith, c.loop-field.invariant.few, w.times-is) }
  | else-eq w ↦
      let at = times_step (fields_of c.args.header.now) c.loop-field.place c.in-Some.field.now c.args.name.now false (sym c.in-Some.ensures.value) (search rules) in
      record { total = omega (arith, at, c.loop-field.invariant.total, w.times-is); few = omega (arith, c.loop-field.invariant.few, w.times-is) }
]

pub returns : goal.returns
returns c =
    let at = times_end (fields_of c.args.header.now) c.loop-field.place c.args.name.now (sym c.in_default.ensures.value) in
    omega (arith, at, c.loop-field.invariant.total)
