-- What a folder of data files is seen as, and which of its answers raise its own count of faults.
use Rattle.std.specs.Prelude.{◌≡◌, ℕ, ◌+◌, Bool, false, not, ◌||◌, List, [], ◌∷◌, ◌++◌, length, map, sum, nat_eq, nat_lt, if◌then◌else◌, Option, None, Some, option_map, option_and_then, IfSome, MatchOption, ◌⊎◌, Result, Ok, Err}
use Rattle.std.specs.List.{filter}
use Rattle.source_trait.specs.Asking.{RowList, Seen}
use Rattle.source_trait.specs.Failing.{next}
use Rattle.source_trait.specs.Holding.{loads_of, others_than}
use Rattle.source_trait.specs.Outside.{bytes_of}
use Rattle.source_trait.specs.declared.holding.Attachment.{Attachment}
use Rattle.source_trait.specs.declared.source.AttachFault.{AttachFault}
use Rattle.source_trait.specs.declared.source.AttachFault.TheVariants.{Missing, Failed, BadHeader, BadRow, NotUtf8, TooLarge, NoMemory}
use Rattle.csv_sources.specs.DataFile.{offered}
use Rattle.csv_sources.specs.declared.folder.TheConstants.{FILE_LIMIT, SUM_LIMIT}

-- names of files with their bytes, where they are told
abbrev pub Contents : Type 0
Contents = Option (List (List ℕ × List ℕ))

-- the bytes of a file, where they are told and the file is there
abbrev pub told_bytes : Contents → List ℕ → Option (List ℕ)
told_bytes contents name = option_and_then (λ files. bytes_of files name) contents

-- the data that a folder offers, where its files tell what they hold; the relation's number plays no part
abbrev pub offers : Contents → ℕ → List (List ℕ) → List ℕ → Option (Result RowList AttachFault)
offers contents rel columns locator = option_map (λ files. offered (bytes_of files locator) columns) contents

-- whether this file beside files of so many bytes passes the limit on all attached files
abbrev pub passes_beside : ℕ → Option (List ℕ) → Bool
passes_beside others None = false
passes_beside others (Some bytes) = nat_lt SUM_LIMIT (others + length bytes)

-- the other relations, with how many bytes each counts
abbrev pub beside : ℕ → List (ℕ × ℕ) → List (ℕ × ℕ)
beside rel loads = filter (λ load. not (nat_eq load.0 rel)) loads

-- how many bytes these count together
abbrev pub total : List (ℕ × ℕ) → ℕ
total loads = sum (map (λ load. load.1) loads)

abbrev pub size_of : Option (List ℕ) → ℕ
size_of None = 0
size_of (Some bytes) = length bytes

-- whether attaching relations one after another would pass that limit, where a relation's own file of before counts no more
abbrev pub passes_limit : List (ℕ × ℕ) → Contents → List (ℕ × List ℕ) → Bool
passes_limit loads contents [] = false
passes_limit loads contents (next ∷ more) =
    passes_beside (total (beside next.0 loads)) (told_bytes contents next.1)
    || passes_limit (beside next.0 loads ++ (next.0, size_of (told_bytes contents next.1)) ∷ []) contents more

-- how many bytes the files at these locators have together
abbrev pub size_together : Contents → List (ℕ × List ℕ) → ℕ
size_together contents list = sum (map (λ next. size_of (told_bytes contents next.1)) list)

-- what an attach answers beside files of so many bytes
abbrev pub offer_beside : ℕ → Contents → List (List ℕ) → List ℕ → Option (Result RowList AttachFault)
offer_beside others contents columns locator =
    option_map (λ given. if passes_beside others (told_bytes contents locator) then Err TooLarge else given) (offers contents 0 columns locator)

-- nothing is attached and nothing was asked; the only faults are those of the files
pub record IsFresh (seen : Seen) (contents : Contents) (faults : ℕ) : Type 0 where
  pub held : seen.held ≡ Some []
  pub offer : seen.offer ≡ offers contents
  pub passes : seen.passes ≡ passes_limit [] contents
  pub asked : seen.asked ≡ Some []
  pub attached : (rel : ℕ) → seen.attached rel ≡ None
  pub failed : seen.faults ≡ faults

-- the folder's own count of faults rises by one for each fault of the data that it finds itself: a file that is longer
-- than its reader may hand on is none of them, and one that passes the limit on all attached files is one
abbrev pub CountsFault : Option (List ℕ) → Type 0 → AttachFault → ℕ → ℕ → Type 0
CountsFault told rose Missing old new = new ≡ old
CountsFault told rose Failed old new = new ≡ old
CountsFault told rose (BadHeader column) old new = new ≡ next old
CountsFault told rose (BadRow number) old new = new ≡ next old
CountsFault told rose (NotUtf8 number) old new = new ≡ next old
CountsFault told rose TooLarge old new =
    MatchOption told ((new ≡ next old) ⊎ (new ≡ old) × rose) (λ bytes. new ≡ (if nat_lt FILE_LIMIT (length bytes) then old else next old))
CountsFault told rose NoMemory old new = new ≡ old

abbrev pub CountsData : {T : Type 0} → Option (List ℕ) → Type 0 → Result T AttachFault → ℕ → ℕ → Type 0
CountsData told rose (Ok done) old new = new ≡ old
CountsData told rose (Err fault) old new = CountsFault told rose fault old new

-- after an attach the files of the other relations count as before, and that of the relation by its bytes where it is attached
abbrev pub CountsBytes : Option (List ℕ) → ℕ → Result (Unit {0}) AttachFault → List Attachment → List Attachment → Type 0
CountsBytes told rel (Ok done) old new = IfSome told (λ bytes. loads_of new ≡ loads_of (others_than rel old) ++ (rel, length bytes) ∷ [])
CountsBytes told rel (Err fault) old new = new ≡ others_than rel old
