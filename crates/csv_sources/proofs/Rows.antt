-- The rows of a data file, one after the other.
use Rattle.std.proofs.Common.{◌≡◌, ◌+◌, ◌<◌, ◌≤◌, ℕ, zero, suc, List, [], ◌∷◌, ◌++◌, length, map, get_or, Option, None, Some, Bool, true, false, cond, Result, Err, refl, sym, ◌∙◌, ap, arith, append_assoc}
use Rattle.std.proofs.lemmas.List.{length-map}
use Rattle.csv.specs.Machine.{Read, next_record}
use Rattle.csv.specs.Reading.{default_config, records, records_from, records_next, strip_bom, is_bom}
use Rattle.csv.specs.declared.parser.Config.{Config}
use Rattle.csv.specs.declared.parser.State.{State}
use Rattle.csv.specs.declared.parser.State.TheVariants as st
use Rattle.source_trait.specs.Asking.{HaveArity, RowList}
use Rattle.source_trait.specs.declared.source.AttachFault.{AttachFault}
use Rattle.source_trait.specs.declared.source.AttachFault.TheVariants.{BadHeader}
use Rattle.csv_sources.specs.DataFile.{after_marks, fields_at, fields_under, first_fault, first_of, header_fault, offer_of, place_in, row_fault, rows_at, unless}

-- a row with a fault is the first one that is answered
pub row_bad : (width n : ℕ) (row : List (List ℕ)) (left all : RowList) (fault : AttachFault) → row_fault width n row ≡ Some fault → unless (first_fault width n (row ∷ left)) all ≡ Err fault
row_bad width n row left all fault h = ap (λ o. unless (first_of o (first_fault width (n + 1) left)) all) h

-- a row without a fault is one of those that are taken
pub row_more : (width n : ℕ) (f : List (List ℕ) → List (List ℕ)) (done : RowList) (row : List (List ℕ)) (left : RowList) → row_fault width n row ≡ None
    → unless (first_fault width n (row ∷ left)) (done ++ map f (row ∷ left)) ≡ unless (first_fault width (n + 1) left) ((done ++ f row ∷ []) ++ map f left)
row_more width n f done row left h =
    ap (λ o. unless (first_of o (first_fault width (n + 1) left)) (done ++ map f (row ∷ left))) h
    ∙ ap (unless (first_fault width (n + 1) left)) (sym (append_assoc done (f row ∷ []) (map f left)))

-- the fields at the places of the columns' names are those under the names
under_places : (header columns row : List (List ℕ)) → fields_at (map (place_in header) columns) row ≡ fields_under header columns row
under_places header [] row = refl
under_places header (c ∷ columns) row = ap (λ (l : List (List ℕ)). get_or row (place_in header c) [] ∷ l) (under_places header columns row)

pub rows_under_places : (header columns : List (List ℕ)) (rows : RowList) → map (fields_at (map (place_in header) columns)) rows ≡ map (fields_under header columns) rows
rows_under_places header columns [] = refl
rows_under_places header columns (row ∷ rows) =
    ap (λ (r : List (List ℕ)). r ∷ map (fields_at (map (place_in header) columns)) rows) (under_places header columns row)
    ∙ ap (λ (l : RowList). fields_under header columns row ∷ l) (rows_under_places header columns rows)

-- a text has no more records than bytes and one
few_from : (cfg : Config) (n : ℕ) (s : State) (xs : List ℕ) → length (records_from cfg n s xs) < n + 1
unfolding records_from
few_from cfg zero s xs = omega arith
few_from cfg (suc n) s xs = by (next_record cfg s [] [] xs) (λ p. few_from cfg n p.1 p.2)
  where
    by : (o : Option Read) → ((p : Read) → length (records_from cfg n p.1 p.2) < n + 1) → length (records_next (records_from cfg n) o) < suc n + 1
    by None few = omega arith
    by (Some p) few = omega (arith, few p)

pub few_records : (xs : List ℕ) → length (records default_config xs) < length xs + 2
few_records xs = omega (arith, few_from default_config (length xs + 1) st.StartRecord xs)

pub marks_shorten : (xs : List ℕ) → length (after_marks xs) ≤ length xs
marks_shorten [] = omega arith
marks_shorten (a ∷ []) = omega arith
marks_shorten (a ∷ b ∷ []) = omega arith
marks_shorten (a ∷ b ∷ c ∷ rest) = step (is_bom a b c) (marks_shorten rest)
  where
    step : (m : Bool) → length (after_marks rest) ≤ length rest → length (cond m (after_marks rest) (a ∷ b ∷ c ∷ rest)) ≤ length (a ∷ b ∷ c ∷ rest)
    step true h = omega (arith, h)
    step false h = omega arith

-- behind the marks there is none
pub no_mark_left : (xs : List ℕ) → strip_bom (after_marks xs) ≡ after_marks xs
unfolding strip_bom
no_mark_left [] = refl
no_mark_left (a ∷ []) = refl
no_mark_left (a ∷ b ∷ []) = refl
no_mark_left (a ∷ b ∷ c ∷ rest) = step (is_bom a b c) refl (no_mark_left rest)
  where
    step : (m : Bool) → is_bom a b c ≡ m → strip_bom (after_marks rest) ≡ after_marks rest
        → strip_bom (cond m (after_marks rest) (a ∷ b ∷ c ∷ rest)) ≡ cond m (after_marks rest) (a ∷ b ∷ c ∷ rest)
    step true is h = h
    step false is h = ap (λ m. cond m rest (a ∷ b ∷ c ∷ rest)) is

-- what the records of a file offer: none, a bad header, and rows under a good one
pub offer_none : (columns : List (List ℕ)) (all : RowList) → all ≡ [] → Err (BadHeader 0) ≡ offer_of columns all
offer_none columns all e = sym (ap (offer_of columns) e)

pub offer_bad : (columns header : List (List ℕ)) (rows all : RowList) (fault : AttachFault) → all ≡ header ∷ rows → Some fault ≡ header_fault header columns → Err fault ≡ offer_of columns all
offer_bad columns header rows all fault e h =
    sym (ap (offer_of columns) e ∙ ap (λ o. unless (first_of o (first_fault (length header) 1 rows)) (map (fields_under header columns) rows)) (sym h))

pub offer_rows : (columns header : List (List ℕ)) (rows all : RowList) (places : List ℕ) (offer : Result RowList AttachFault) → all ≡ header ∷ rows → None ≡ header_fault header columns → places ≡ map (place_in header) columns
    → offer ≡ rows_at (length header) places rows → offer ≡ offer_of columns all
offer_rows columns header rows all places offer e h at is =
    is
    ∙ ap (λ (ps : List ℕ). rows_at (length header) ps rows) at
    ∙ ap (unless (first_fault (length header) 1 rows)) (rows_under_places header columns rows)
    ∙ sym (ap (offer_of columns) e ∙ ap (λ o. unless (first_of o (first_fault (length header) 1 rows)) (map (fields_under header columns) rows)) (sym h))

-- a record without a fault adds its fields at the places to the rows
pub rows_step : (width n : ℕ) (places : List ℕ) (done more old left : RowList) (row text : List (List ℕ)) → old ≡ row ∷ left → row_fault width n row ≡ None → text ≡ row → more ≡ done ++ fields_at places text ∷ []
    → unless (first_fault width n old) (done ++ map (fields_at places) old) ≡ unless (first_fault width (n + 1) left) (more ++ map (fields_at places) left)
rows_step width n places done more old left row text taken good same added =
    let f = fields_at places in
    let added_is : more ≡ done ++ f row ∷ [] = added ∙ ap (λ (r : List (List ℕ)). done ++ f r ∷ []) same in
    ap (λ (l : RowList). unless (first_fault width n l) (done ++ map f l)) taken
    ∙ row_more width n f done row left good
    ∙ ap (λ (l : RowList). unless (first_fault width (n + 1) left) (l ++ map f left)) (sym added_is)

arity_push : (arity : ℕ) (rows : RowList) (row : List (List ℕ)) → HaveArity arity rows → length row ≡ arity → HaveArity arity (rows ++ row ∷ [])
arity_push arity [] row all one = (one, tt)
arity_push arity (first ∷ rows) row all one = (all.0, arity_push arity rows row all.1 one)

pub arity_more : (places : List ℕ) (done more : RowList) (text : List (List ℕ)) → HaveArity (length places) done → more ≡ done ++ fields_at places text ∷ [] → HaveArity (length places) more
arity_more places done more text all added = rw added (arity_push (length places) done (fields_at places text) all (length-map places (λ p. get_or text p [])))
