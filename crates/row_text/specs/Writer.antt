-- A writer between two records.
use Rattle.std.specs.Prelude.{◌≡◌, false, true}
use Rattle.csv.specs.Writing.{default_writer, fields_written, has_written, with_flexible, writer_setup}
use Rattle.csv.specs.declared.writer.Writer.{Writer}

-- it writes as the default writer does, rows of any lengths, and has begun no record
pub record IsReady {W : Type 0} (writer : Writer W) : Type 0 where
  pub setup : writer_setup writer ≡ with_flexible default_writer true
  pub fields : fields_written writer ≡ 0
  pub fresh : has_written writer ≡ false
