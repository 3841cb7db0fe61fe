use Rattle.std.proofs.Common.{◌≡◌, true, false, nat_eq, length, refl, arith}
use Rattle.std.proofs.lemmas.Bool.{false≢true}
use Rattle.std.proofs.lemmas.Bool.Decides.{nat_tests}
use Rattle.csv.specs.Records.{fields_of}
use Rattle.csv_sources.specs.DataFile.{all_text}
use Rattle.csv_sources.proofs.Fields.{all_text-false, all_text-true}
use Rattle.csv_sources.proofs.data_file.text_row.Goals as goal

pub returns-in-Ok-clause-whole : goal.returns-in-Ok-clause-whole
returns-in-Ok-clause-whole c =
    let width : nat_eq (length (fields_of c.args.row)) c.args.width ≡ true = grind (arith, nat_tests, c.if-len-width.false, c.len.ensures) in
    let text : all_text (fields_of c.args.row) ≡ true = rw (← c.in-Ok.ensures.same) (all_text-true (fields_of c.in-Ok.text) c.in-Ok.ensures.text) in
    rw (width, text) refl

pub returns-clause-fault : goal.returns-clause-fault
returns-clause-fault c =
    let width : nat_eq (length (fields_of c.args.row)) c.args.width ≡ true = grind (arith, nat_tests, c.if-len-width.false, c.len.ensures) in
    let text : all_text (fields_of c.args.row) ≡ false = all_text-false (fields_of c.args.row) (λ all. false≢true (c.in-Err.ensures.refused all)) in
    rw (width, text) refl
