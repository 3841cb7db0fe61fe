use Rattle.std.proofs.Common.{◌∙◌, sym, arith}
use Rattle.csv.specs.Records.{fields_of}
use Rattle.csv_sources.proofs.Fields.{field_below, not_text, more_text, end_text}
use Rattle.csv_sources.proofs.header.is_text.Goals as goal

pub returns-in-Err : goal.returns-in-Err
returns-in-Err c = sym (c.loop-field.invariant ∙ not_text (fields_of c.args.row.now) c.loop-field.place c.in-Some.field.now (sym c.in-Some.ensures.value) c.in-Err.ensures.cases.0)

pub loop-field-smaller : goal.loop-field-smaller
loop-field-smaller c = omega (arith, field_below (fields_of c.args.row.now) c.loop-field.place c.in-Some.field.now (sym c.in-Some.ensures.value))

pub loop-field-preserved : goal.loop-field-preserved
loop-field-preserved c = c.loop-field.invariant ∙ more_text (fields_of c.args.row.now) c.loop-field.place c.in-Some.field.now (sym c.in-Some.ensures.value) c.in-Ok.ensures.cases.1

pub returns : goal.returns
returns c = sym (c.loop-field.invariant ∙ end_text (fields_of c.args.row.now) c.loop-field.place (sym c.in_default.ensures.value))
