-- What the bytes of a data file offer to a relation with these columns: CSV (RFC 4180), whose first record is a header.
use Rattle.std.specs.Prelude.{◌≡◌, ℕ, ◌+◌, Bool, true, List, [], ◌∷◌, length, map, Option, None, Some, option_map, nat_eq, nat_lt, if◌then◌else◌, count_by, slice_index_or, Result, Ok, Err}
use Rattle.std.specs.Cmp.Lexicographic.{pointwise}
use Rattle.std.specs.List.{AllByRecursion, list_all}
use Rattle.std.specs.Str.{is_utf8}
use Rattle.csv.specs.Reading.{default_config, is_bom, records}
use Rattle.source_trait.specs.Asking.{RowList}
use Rattle.source_trait.specs.declared.source.AttachFault.{AttachFault}
use Rattle.source_trait.specs.declared.source.AttachFault.TheVariants.{Missing, BadHeader, BadRow, NotUtf8, TooLarge}
use Rattle.csv_sources.specs.declared.folder.TheConstants.{FILE_LIMIT}

-- the bytes behind every byte order mark at the beginning
abbrev pub after_marks : List ℕ → List ℕ
after_marks [] = []
after_marks (a ∷ []) = a ∷ []
after_marks (a ∷ b ∷ []) = a ∷ b ∷ []
after_marks (a ∷ b ∷ c ∷ rest) = if is_bom a b c then after_marks rest else a ∷ b ∷ c ∷ rest

-- whether each field is text
abbrev pub all_text : List (List ℕ) → Bool
all_text fields = list_all is_utf8 fields

-- each field of each row is text
abbrev pub AreText : RowList → Type 0
AreText rows = AllByRecursion (λ row. all_text row ≡ true) rows

-- how often a name stands in a header, as equal bytes
abbrev pub times_in : List (List ℕ) → List ℕ → ℕ
times_in header name = count_by (λ field. pointwise nat_eq field name) header

-- the first of the columns, counted from n, whose name does not stand in the header exactly once
abbrev pub bad_column : List (List ℕ) → ℕ → List (List ℕ) → Option ℕ
bad_column header n [] = None
bad_column header n (name ∷ columns) = if nat_eq (times_in header name) 1 then bad_column header (n + 1) columns else Some n

-- what is wrong with a header for these columns
abbrev pub header_fault : List (List ℕ) → List (List ℕ) → Option AttachFault
header_fault header columns = if all_text header then option_map BadHeader (bad_column header 0 columns) else Some (NotUtf8 0)

-- what is wrong with the row of this number under so many names
abbrev pub row_fault : ℕ → ℕ → List (List ℕ) → Option AttachFault
row_fault width number row = if nat_eq (length row) width then (if all_text row then None else Some (NotUtf8 number)) else Some (BadRow number)

-- the first fault, where the second is looked for only where the first is not there
abbrev pub first_of : Option AttachFault → Option AttachFault → Option AttachFault
first_of None later = later
first_of (Some fault) later = Some fault

-- what is wrong with the first row that has a fault, where the rows are counted from n
abbrev pub first_fault : ℕ → ℕ → RowList → Option AttachFault
first_fault width n [] = None
first_fault width n (row ∷ rows) = first_of (row_fault width n row) (first_fault width (n + 1) rows)

-- the place of the first field that is the name
abbrev pub place_in : List (List ℕ) → List ℕ → ℕ
place_in [] name = 0
place_in (field ∷ header) name = if pointwise nat_eq field name then 0 else place_in header name + 1

-- the fields of a row that stand under the columns' names, in the order of the columns
abbrev pub fields_under : List (List ℕ) → List (List ℕ) → List (List ℕ) → List (List ℕ)
fields_under header columns row = map (λ name. slice_index_or row (place_in header name) []) columns

-- these rows, where there is no fault
abbrev pub unless : Option AttachFault → RowList → Result RowList AttachFault
unless None rows = Ok rows
unless (Some fault) rows = Err fault

-- the fields of a row at these places; one that is not there is empty
abbrev pub fields_at : List ℕ → List (List ℕ) → List (List ℕ)
fields_at places row = map (λ p. slice_index_or row p []) places

-- the fields at these places of each row, or what is wrong with the first that is no row of this width
abbrev pub rows_at : ℕ → List ℕ → RowList → Result RowList AttachFault
rows_at width places rows = unless (first_fault width 1 rows) (map (fields_at places) rows)

-- what records offer, of which the first is the header
abbrev pub offer_of : List (List ℕ) → RowList → Result RowList AttachFault
offer_of columns [] = Err (BadHeader 0)
offer_of columns (header ∷ rows) =
    unless (first_of (header_fault header columns) (first_fault (length header) 1 rows)) (map (fields_under header columns) rows)

-- what the bytes of a file offer, whatever their number
abbrev pub file_offer : List ℕ → List (List ℕ) → Result RowList AttachFault
file_offer bytes columns = offer_of columns (records default_config (after_marks bytes))

-- the rows that an attach of a file with these bytes takes, or the fault that it answers
abbrev pub offered : Option (List ℕ) → List (List ℕ) → Result RowList AttachFault
offered None columns = Err Missing
offered (Some bytes) columns = if nat_lt FILE_LIMIT (length bytes) then Err TooLarge else file_offer bytes columns
