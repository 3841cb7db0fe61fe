use Rattle.std.proofs.Common.{◌≡◌, ◌≢◌, ◌+◌, ◌∷◌, ◌++◌, ◌∙◌, sym, ap, arith, length, map, subst, Some, None, rules, List, ℕ}
use Rattle.std.proofs.lemmas.List.{length-map}
use Rattle.csv.specs.Reading.{default_config, records}
use Rattle.csv.specs.Records.{AllText, fields_of}
use Rattle.source_trait.specs.Asking.{RowList}
use Rattle.source_trait.specs.declared.source.AttachFault.TheVariants.{BadRow}
use Rattle.csv_sources.specs.DataFile.{AreText, fields_at, row_fault}
use Rattle.csv_sources.proofs.Gathered.{AllText-append, AllText-of_whole, gathered_fault, gathered_more, gathered_none, of_another_width, of_width, text_under}
use denote.Ref.{Bor}
use Rattle.csv_sources.proofs.plain.plain_rows.Goals as goal

pub loop-fields-init : goal.loop-fields-init
unfolding AllText
loop-fields-init c = record {
  plain = c.requires.plain;
  count = omega arith;
  ascii = c.requires.text;
  whole = c.requires.fresh;
  text = rw c.requires.none tt;
  rows = gathered_none c.args.width c.args.places.now (fields_of c.args.values) (records default_config c.args.text.now) c.requires.none;
}

pub loop-fields-preserved : goal.loop-fields-preserved
loop-fields-preserved c =
    let number = c.loop-fields.number + 1 in
    let places = c.args.places.now in
    let row = map (λ f. f.now) c.cut_record.new.fields.items in
    let left = records default_config c.in-Some.rest.now in
    let cut = rw c.in-Some.is at c.in_ok-rest.ensures in
    let taken : records default_config c.loop-fields.left.now ≡ row ∷ left = cut.1 in
    let all = subst AreText taken c.loop-fields.invariant.ascii in
    let wide : length row ≡ c.args.width = length-map c.cut_record.new.fields.items (λ f. f.now) ∙ search rules in
    let whole : row_fault c.args.width number row ≡ None = of_width c.args.width number row wide all.0 in
    let added : fields_of c.push_slices.new.values ≡ fields_of c.loop-fields.values ++ fields_at places row =
    c.in_ok-push_slices.ensures.fields
    ∙ ap (λ (l : List (Bor (List ℕ))). fields_of c.loop-fields.values ++ fields_at places (map (λ f. f.now) l)) c.as_slice.ensures.value in
    record {
      plain = cut.0;
      count = omega (arith, c.loop-fields.invariant.count, ap (λ (l : RowList). length l) taken);
      ascii = all.1;
      whole = c.in_ok-push_slices.ensures.whole;
      text = rw added (AllText-append (fields_of c.loop-fields.values) _ c.loop-fields.invariant.text (text_under places row (AllText-of_whole c.args.width number row whole)));
      rows = gathered_more c.args.width places number (fields_of c.loop-fields.values) (fields_of c.push_slices.new.values) (records default_config c.args.text.now)
          (records default_config c.loop-fields.left.now) left row taken whole added c.loop-fields.invariant.rows;
    }

pub returns-then-len-width-clause-offer : goal.returns-then-len-width-clause-offer
returns-then-len-width-clause-offer c =
    let number = c.loop-fields.number + 1 in
    let row = map (λ f. f.now) c.cut_record.new.fields.items in
    let left = records default_config c.in-Some.rest.now in
    let cut = rw c.in-Some.is at c.in_ok-rest.ensures in
    let taken : records default_config c.loop-fields.left.now ≡ row ∷ left = cut.1 in
    let count : length row ≡ length c.cut_record.new.fields.items = length-map c.cut_record.new.fields.items (λ f. f.now) in
    let apart : length c.cut_record.new.fields.items ≢ c.args.width = search rules in
    let bad : row_fault c.args.width number row ≡ Some (BadRow number) = of_another_width c.args.width number row (λ same. apart (sym count ∙ same)) in
    gathered_fault c.args.width c.args.places.now number (fields_of c.loop-fields.values) (records default_config c.args.text.now) (records default_config c.loop-fields.left.now) left row (BadRow number) taken bad c.loop-fields.invariant.rows
