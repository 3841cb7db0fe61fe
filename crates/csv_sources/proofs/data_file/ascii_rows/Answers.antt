use Rattle.std.proofs.Common.{◌≡◌, ◌+◌, ◌∷◌, ap, arith, length, subst, true, Some, None, rules}
use Rattle.csv.specs.Records.{AllText, fields_of}
use Rattle.source_trait.specs.Asking.{RowList}
use Rattle.source_trait.specs.declared.source.AttachFault.TheVariants.{BadRow}
use Rattle.csv_sources.specs.DataFile.{AreText, row_fault}
use Rattle.csv_sources.specs.Records.{records_left}
use Rattle.csv_sources.proofs.Gathered.{AllText-append, AllText-of_whole, gathered_fault, gathered_more, gathered_none, of_another_width, of_width, text_under}
use Rattle.csv_sources.proofs.data_file.ascii_rows.Goals as goal

pub loop-record-init : goal.loop-record-init
unfolding AllText
loop-record-init c = record {
  reading = c.requires.reading;
  count = omega arith;
  ascii = c.requires.text;
  whole = c.requires.fresh;
  text = rw c.requires.none tt;
  rows = gathered_none c.args.width c.args.places.now (fields_of c.args.values) (records_left c.args.reader.now) c.requires.none;
}

pub loop-record-preserved : goal.loop-record-preserved
loop-record-preserved c =
    let found : c.in_ok-next_record.field-0 ≡ true = search rules in
    let row = fields_of c.next_record.new.row in
    let left = records_left c.next_record.new.reader in
    let taken : records_left c.loop-record.reader ≡ row ∷ left = c.in_ok-next_record.ensures.taken found in
    let all = subst AreText taken c.loop-record.invariant.ascii in
    let whole : row_fault c.args.width (c.loop-record.number + 1) row ≡ None = of_width c.args.width (c.loop-record.number + 1) row (search rules) all.0 in
    record {
      reading = c.in_ok-next_record.ensures.reading;
      count = omega (arith, c.loop-record.invariant.count, ap (λ (l : RowList). length l) taken);
      ascii = all.1;
      whole = c.in_ok-push_fields.ensures.whole;
      text = rw c.in_ok-push_fields.ensures.fields (AllText-append (fields_of c.loop-record.values) _ c.loop-record.invariant.text (text_under c.args.places.now row (AllText-of_whole c.args.width (c.loop-record.number + 1) row whole)));
      rows = gathered_more c.args.width c.args.places.now (c.loop-record.number + 1) (fields_of c.loop-record.values) (fields_of c.push_fields.new.values) (records_left c.args.reader.now)
          (records_left c.loop-record.reader) left row taken whole c.in_ok-push_fields.ensures.fields c.loop-record.invariant.rows;
    }

pub returns-then-len-width-clause-offer : goal.returns-then-len-width-clause-offer
returns-then-len-width-clause-offer c =
    let found : c.in_ok-next_record.field-0 ≡ true = search rules in
    let row = fields_of c.next_record.new.row in
    let left = records_left c.next_record.new.reader in
    let taken : records_left c.loop-record.reader ≡ row ∷ left = c.in_ok-next_record.ensures.taken found in
    let number = c.loop-record.number + 1 in
    let bad : row_fault c.args.width number row ≡ Some (BadRow number) = of_another_width c.args.width number row (search rules) in
    gathered_fault c.args.width c.args.places.now number (fields_of c.loop-record.values) (records_left c.args.reader.now) (records_left c.loop-record.reader) left row (BadRow number) taken bad c.loop-record.invariant.rows
