use Rattle.std.proofs.Common.{sym}
use Rattle.csv.specs.Records.{fields_of}
use Rattle.row_text.proofs.Packing.{field_get, field_past}
use Rattle.csv_sources.proofs.data_file.text_at.Goals as goal

pub returns-in-Some : goal.returns-in-Some
returns-in-Some c = sym (field_get (fields_of c.args.row.now) c.args.place c.in-Some.field.now (sym c.in-Some.ensures.value))

pub returns-in-None : goal.returns-in-None
returns-in-None c = sym (field_past (fields_of c.args.row.now) c.args.place (sym c.in-None.ensures.value))
