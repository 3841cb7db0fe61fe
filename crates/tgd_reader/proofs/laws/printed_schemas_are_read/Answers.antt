use Rattle.std.proofs.Common.{refl}
use Rattle.tgd_reader.specs.Printed.{parts_of, has_integers}
use Rattle.tgd_reader.proofs.PrintedParts.{parts_again}
use Rattle.tgd_reader.proofs.Plain.{schema_plain}
use Rattle.tgd_reader.proofs.Again.{declares_again}
use Rattle.tgd_reader.proofs.laws.printed_schemas_are_read.Goals as goal

pub returns-clause-parts : goal.returns-clause-parts
returns-clause-parts c = λ schema.
    let v = has_integers schema.relations in
    parts_again v (parts_of schema) (schema_plain schema v refl)

pub returns-clause-schema : goal.returns-clause-schema
returns-clause-schema c = λ schema. declares_again schema
