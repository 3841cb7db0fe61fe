-- What a source in memory offers: the rows of the table at a locator.
use Rattle.std.specs.Prelude.{◌≡◌, ℕ, zero, suc, ◌+◌, List, [], ◌∷◌, length, Option, None, Some, nat_eq, if◌then◌else◌, Result, Ok, Err}
use Rattle.std.specs.Cmp.Lexicographic.{pointwise}
use Rattle.source_trait.specs.Asking.{RowList}
use Rattle.source_trait.specs.declared.table.Table.{Table}
use Rattle.source_trait.specs.declared.source.AttachFault.{AttachFault}
use Rattle.source_trait.specs.declared.source.AttachFault.TheVariants.{Missing, Failed, BadRow, NoMemory}

-- the rows under a locator
abbrev pub rows_under : List Table → List ℕ → Option RowList
rows_under [] locator = None
rows_under (t ∷ rest) locator = if pointwise nat_eq t.locator locator then Some t.rows else rows_under rest locator

-- no two tables have one locator
abbrev pub LocatorsDiffer : List Table → Type 0
LocatorsDiffer [] = Unit {0}
LocatorsDiffer (t ∷ rest) = (rows_under rest t.locator ≡ None) × LocatorsDiffer rest

-- the number of the first row of another length, counted from n, or 0
abbrev pub bad_row : ℕ → ℕ → RowList → ℕ
bad_row arity n [] = 0
bad_row arity n (row ∷ rows) = if nat_eq (length row) arity then bad_row arity (n + 1) rows else n

-- the rows, or the number of the one that is bad
abbrev pub whole : ℕ → RowList → Result RowList AttachFault
whole zero rows = Ok rows
whole (suc n) rows = Err (BadRow (suc n))

-- what an attach of so many columns would take
abbrev pub offered : Option RowList → ℕ → Result RowList AttachFault
offered None arity = Err Missing
offered (Some rows) arity = whole (bad_row arity 1 rows) rows

-- an answer gives what is offered, unless memory runs out
abbrev pub Offers : Result RowList AttachFault → Result RowList AttachFault → Type 0
Offers offer (Ok rows) = offer ≡ Ok rows
Offers offer (Err NoMemory) = Unit {0}
Offers offer (Err Failed) = ⊥
Offers offer (Err e) = offer ≡ Err e
