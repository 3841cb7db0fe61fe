-- What a told file offers, and which faults are those of its data.
use Rattle.std.proofs.Common.{◌≡◌, ◌<◌, ◌≤◌, ◌+◌, ℕ, suc, List, [], ◌∷◌, length, map, Option, None, Some, option_map, Bool, true, false, cond, nat_eq, Result, Err, sym, subst, arith, inl}
use Rattle.std.specs.Option.{IfSome}
use Rattle.std.specs.Result.{IfErr}
use Rattle.std.proofs.lemmas.Bool.Decides.{nat_tests}
use Rattle.source_trait.specs.Asking.{AttachCause, ColumnBelow, RowList}
use Rattle.source_trait.specs.Failing.{next}
use Rattle.source_trait.specs.Outside.{bytes_of}
use Rattle.source_trait.specs.declared.source.AttachFault.{AttachFault}
use Rattle.source_trait.specs.declared.source.AttachFault.TheVariants.{Missing, Failed, BadHeader, BadRow, NotUtf8, TooLarge, NoMemory}
use Rattle.csv.specs.Reading.{default_config, records}
use Rattle.csv_sources.specs.declared.folder.TheConstants.{FILE_LIMIT}
use Rattle.csv_sources.specs.DataFile.{after_marks, all_text, bad_column, fields_under, file_offer, first_fault, first_of, header_fault, offer_of, row_fault, times_in, unless}
use Rattle.csv_sources.specs.Folder.{Contents, CountsFault, offer_beside, passes_beside, told_bytes}

-- a fault that the data of a file has, under so many columns
abbrev pub OfData : ℕ → AttachFault → Type 0
OfData arity Missing = ⊥
OfData arity Failed = ⊥
OfData arity (BadHeader column) = column < arity
OfData arity (BadRow number) = Unit {0}
OfData arity (NotUtf8 number) = Unit {0}
OfData arity TooLarge = Unit {0}
OfData arity NoMemory = ⊥

bad_below : (header : List (List ℕ)) (n : ℕ) (columns : List (List ℕ)) → IfSome (bad_column header n columns) (λ column. column < n + length columns)
bad_below header n [] = tt
bad_below header n (c ∷ columns) = step (nat_eq (times_in header c) 1) (bad_column header (n + 1) columns) (bad_below header (n + 1) columns)
  where
    step : (b : Bool) (later : Option ℕ) → IfSome later (λ column. column < n + 1 + length columns) → IfSome (cond b later (Some n)) (λ column. column < n + suc (length columns))
    step true None h = tt
    step true (Some column) h = omega (arith, h)
    step false later h = omega arith

header_of_data : (header columns : List (List ℕ)) → IfSome (header_fault header columns) (OfData (length columns))
header_of_data header columns = step (all_text header) (bad_column header 0 columns) (bad_below header 0 columns)
  where
    step : (b : Bool) (o : Option ℕ) → IfSome o (λ column. column < 0 + length columns) → IfSome (cond b (option_map BadHeader o) (Some (NotUtf8 0))) (OfData (length columns))
    step true None h = tt
    step true (Some column) h = omega (arith, h)
    step false o h = tt

first_of_data : (arity : ℕ) (a b : Option AttachFault) → IfSome a (OfData arity) → IfSome b (OfData arity) → IfSome (first_of a b) (OfData arity)
first_of_data arity None b h k = k
first_of_data arity (Some f) b h k = h

row_of_data : (arity width n : ℕ) (row : List (List ℕ)) → IfSome (row_fault width n row) (OfData arity)
row_of_data arity width n row = step (nat_eq (length row) width) (all_text row)
  where
    step : (b t : Bool) → IfSome (cond b (cond t None (Some (NotUtf8 n))) (Some (BadRow n))) (OfData arity)
    step true true = tt
    step true false = tt
    step false t = tt

rows_of_data : (arity width n : ℕ) (rows : RowList) → IfSome (first_fault width n rows) (OfData arity)
rows_of_data arity width n [] = tt
rows_of_data arity width n (row ∷ rows) = first_of_data arity (row_fault width n row) (first_fault width (n + 1) rows) (row_of_data arity width n row) (rows_of_data arity width (n + 1) rows)

unless_of_data : (arity : ℕ) (o : Option AttachFault) (rows : RowList) → IfSome o (OfData arity) → IfErr (unless o rows) (OfData arity)
unless_of_data arity None rows h = tt
unless_of_data arity (Some f) rows h = h

offer_of_data : (columns : List (List ℕ)) (all : RowList) → 1 ≤ length columns → IfErr (offer_of columns all) (OfData (length columns))
offer_of_data columns [] some = some
offer_of_data columns (header ∷ rows) some =
    unless_of_data (length columns) (first_of (header_fault header columns) (first_fault (length header) 1 rows)) (map (fields_under header columns) rows)
    (first_of_data (length columns) (header_fault header columns) (first_fault (length header) 1 rows) (header_of_data header columns) (rows_of_data (length columns) (length header) 1 rows))

-- what bytes offer beside others
abbrev Beside : ℕ → List ℕ → List (List ℕ) → Result RowList AttachFault
Beside others bytes columns = cond (passes_beside others (Some bytes)) (Err TooLarge) (file_offer bytes columns)

pub fault_of_data : (others : ℕ) (bytes : List ℕ) (columns : List (List ℕ)) (fault : AttachFault) → 1 ≤ length columns → Err fault ≡ cond (passes_beside others (Some bytes)) (Err TooLarge) (file_offer bytes columns) → OfData (length columns) fault
fault_of_data others bytes columns fault some h = subst (λ (r : Result RowList AttachFault). IfErr r (OfData (length columns))) (sym h) (step (passes_beside others (Some bytes)))
  where
    step : (b : Bool) → IfErr (cond b (Err TooLarge) (file_offer bytes columns)) (OfData (length columns))
    step true = tt
    step false = offer_of_data columns (records default_config (after_marks bytes)) some

-- what was read is what is told
pub told_read : (contents : Contents) (name bytes : List ℕ) (columns : List (List ℕ)) (others : ℕ) (o : Result RowList AttachFault) → IfSome contents (λ files. bytes_of files name ≡ Some bytes) → length bytes ≤ FILE_LIMIT
    → o ≡ cond (passes_beside others (Some bytes)) (Err TooLarge) (file_offer bytes columns) → IfSome (offer_beside others contents columns name) (λ given. given ≡ o)
told_read None name bytes columns others o there short is = tt
told_read (Some files) name bytes columns others o there short is = rw (there, is) (grind (arith, nat_tests, short))

pub told_short : (contents : Contents) (name bytes : List ℕ) → IfSome contents (λ files. bytes_of files name ≡ Some bytes) → length bytes ≤ FILE_LIMIT → IfSome (told_bytes contents name) (λ b. length b ≤ FILE_LIMIT)
told_short None name bytes there short = tt
told_short (Some files) name bytes there short = rw there short

-- a fault of the data has its cause, and names one of the columns
pub data_cause : (arity : ℕ) (fault : AttachFault) (offer : Option (Result RowList AttachFault)) (rose : Type 0) → OfData arity fault → IfSome offer (λ o. o ≡ Err fault) → rose → AttachCause fault offer rose × ColumnBelow fault arity
data_cause arity Missing offer rose d h r = absurd d
data_cause arity Failed offer rose d h r = absurd d
data_cause arity NoMemory offer rose d h r = absurd d
data_cause arity (BadHeader column) None rose d h r = (r, d)
data_cause arity (BadHeader column) (Some o) rose d h r = (h, d)
data_cause arity (BadRow number) None rose d h r = (r, tt)
data_cause arity (BadRow number) (Some o) rose d h r = (h, tt)
data_cause arity (NotUtf8 number) None rose d h r = (r, tt)
data_cause arity (NotUtf8 number) (Some o) rose d h r = (h, tt)
data_cause arity TooLarge None rose d h r = (r, tt)
data_cause arity TooLarge (Some o) rose d h r = (h, tt)

-- and is counted
pub data_counted : (arity : ℕ) (fault : AttachFault) (told : Option (List ℕ)) (rose : Type 0) (old new : ℕ) → OfData arity fault → IfSome told (λ bytes. length bytes ≤ FILE_LIMIT) → new ≡ next old → CountsFault told rose fault old new
data_counted arity Missing told rose old new d short h = absurd d
data_counted arity Failed told rose old new d short h = absurd d
data_counted arity NoMemory told rose old new d short h = absurd d
data_counted arity (BadHeader column) told rose old new d short h = h
data_counted arity (BadRow number) told rose old new d short h = h
data_counted arity (NotUtf8 number) told rose old new d short h = h
data_counted arity TooLarge None rose old new d short h = inl h
data_counted arity TooLarge (Some bytes) rose old new d short h = grind (arith, nat_tests, short, h)
