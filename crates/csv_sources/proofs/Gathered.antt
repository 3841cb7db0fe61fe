-- The values of rows, gathered one row after another.
use Rattle.std.proofs.Common.{◌≡◌, ◌≢◌, arith, ◌+◌, ℕ, zero, suc, List, [], ◌∷◌, ◌++◌, length, map, get_or, nat_eq, Bool, true, false, cond, refl, sym, ◌∙◌, ap, append_assoc}
use Rattle.std.specs.Prelude.{Err, None, Ok, Some}
use Rattle.std.specs.Str.{IsUtf8}
use Rattle.std.proofs.lemmas.List.{append-nil}
use Rattle.std.proofs.lemmas.Bool.Decides.{nat_tests}
use Rattle.std.proofs.lemmas.Str.{IsUtf8-nil}
use Rattle.csv.specs.Records.{AllText}
use Rattle.row_text.specs.Packed.{values_of}
use Rattle.source_trait.specs.Asking.{HaveArity, RowList}
use Rattle.source_trait.specs.declared.source.AttachFault.{AttachFault}
use Rattle.source_trait.specs.declared.source.AttachFault.TheVariants.{BadRow, NotUtf8}
use Rattle.csv_sources.specs.DataFile.{all_text, fields_at, first_fault, row_fault, rows_at, unless}
use Rattle.csv_sources.proofs.Fields.{AllText-from_all_text}
use Rattle.csv_sources.proofs.Rows.{arity_more, row_bad, rows_step}

pub values_push : (rows : RowList) (row : List (List ℕ)) → values_of (rows ++ row ∷ []) ≡ values_of rows ++ row
values_push [] row = append-nil row
values_push (first ∷ rows) row = ap (λ (l : List (List ℕ)). first ++ l) (values_push rows row) ∙ sym (append_assoc first (values_of rows) row)

pub AllText-append : (fields more : List (List ℕ)) → AllText fields → AllText more → AllText (fields ++ more)
unfolding AllText
AllText-append [] more all other = other
AllText-append (field ∷ fields) more all other = (all.0, AllText-append fields more all.1 other)

text_at : (fields : List (List ℕ)) (place : ℕ) → AllText fields → IsUtf8 (get_or fields place [])
unfolding AllText
text_at [] place all = IsUtf8-nil
text_at (field ∷ fields) zero all = all.0
text_at (field ∷ fields) (suc place) all = text_at fields place all.1

-- the fields of a row of text at places are text
pub text_under : (places : List ℕ) (fields : List (List ℕ)) → AllText fields → AllText (fields_at places fields)
unfolding AllText
text_under [] fields all = tt
text_under (place ∷ places) fields all = (text_at fields place all, text_under places fields all)

-- a row without a fault is of text
text_of_whole : (width number : ℕ) (row : List (List ℕ)) → row_fault width number row ≡ None → all_text row ≡ true
text_of_whole width number row whole = by (nat_eq (length row) width) (all_text row) refl whole
  where
    by : (wide text : Bool) → all_text row ≡ text → cond wide (cond text None (Some (NotUtf8 number))) (Some (BadRow number)) ≡ None → all_text row ≡ true
    by true true is whole = is
    by true false is whole = absurd (cc)
    by false text is whole = absurd (cc)

pub AllText-of_whole : (width number : ℕ) (row : List (List ℕ)) → row_fault width number row ≡ None → AllText row
AllText-of_whole width number row whole = AllText-from_all_text row (text_of_whole width number row whole)

-- a row of text by its width
pub of_width : (width number : ℕ) (row : List (List ℕ)) → length row ≡ width → all_text row ≡ true → row_fault width number row ≡ None
of_width width number row wide text =
    let test : nat_eq (length row) width ≡ true = grind (arith, nat_tests, wide) in
    rw (test, text) refl

pub of_another_width : (width number : ℕ) (row : List (List ℕ)) → length row ≢ width → row_fault width number row ≡ Some (BadRow number)
of_another_width width number row other =
    let test : nat_eq (length row) width ≡ false = grind (arith, nat_tests, other) in
    rw test refl

-- the fields at the places of the first of all records, none of which has a fault; those that are left are counted from n
pub record AreGathered (width : ℕ) (places : List ℕ) (n : ℕ) (values : List (List ℕ)) (all left : RowList) : Type 0 where
  pub rows : RowList
  pub gathered : values_of rows ≡ values
  pub fit : HaveArity (length places) rows
  pub same : rows_at width places all ≡ unless (first_fault width n left) (rows ++ map (fields_at places) left)

pub gathered_none : (width : ℕ) (places : List ℕ) (values : List (List ℕ)) (all : RowList) → values ≡ [] → AreGathered width places 1 values all all
gathered_none width places values all none = record { rows = []; gathered = sym none; fit = tt; same = refl }

-- the first record that is left is gathered
pub gathered_more : (width : ℕ) (places : List ℕ) (n : ℕ) (values more : List (List ℕ)) (all old left : RowList) (row : List (List ℕ)) → old ≡ row ∷ left → row_fault width n row ≡ None
    → more ≡ values ++ fields_at places row → AreGathered width places n values all old → AreGathered width places (n + 1) more all left
gathered_more width places n values more all old left row taken whole added done =
    let picked = fields_at places row in
    record {
      rows = done.rows ++ picked ∷ [];
      gathered = values_push done.rows picked ∙ ap (λ (l : List (List ℕ)). l ++ picked) done.gathered ∙ sym added;
      fit = arity_more places done.rows (done.rows ++ picked ∷ []) row done.fit refl;
      same = done.same ∙ rows_step width n places done.rows (done.rows ++ picked ∷ []) old left row row taken whole refl refl;
    }

-- where none is left all are gathered
pub gathered_all : (width : ℕ) (places : List ℕ) (n : ℕ) (values : List (List ℕ)) (all left : RowList) (done : AreGathered width places n values all left) → left ≡ []
    → Ok done.rows ≡ rows_at width places all
gathered_all width places n values all left done none =
    sym (done.same ∙ ap (λ (l : RowList). unless (first_fault width n l) (done.rows ++ map (fields_at places) l)) none ∙ ap Ok (append-nil done.rows))

-- the first record that is left has the first fault
pub gathered_fault : (width : ℕ) (places : List ℕ) (n : ℕ) (values : List (List ℕ)) (all old left : RowList) (row : List (List ℕ)) (fault : AttachFault) → old ≡ row ∷ left
    → row_fault width n row ≡ Some fault → AreGathered width places n values all old → Err fault ≡ rows_at width places all
gathered_fault width places n values all old left row fault taken bad done =
    sym (done.same
    ∙ ap (λ (l : RowList). unless (first_fault width n l) (done.rows ++ map (fields_at places) l)) taken
    ∙ row_bad width n row left (done.rows ++ map (fields_at places) (row ∷ left)) fault bad)
