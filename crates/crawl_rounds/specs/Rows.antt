-- The rows of values with which a round of a crawl asks the requests of one class: its methods have one relation and the
-- same inputs.
use Rattle.std.specs.Prelude.{ℕ, zero, suc, ◌+◌, ◌-◌, ◌*◌, ◌^◌, Bool, ◌||◌, if◌then◌else◌, List, [], ◌∷◌, ◌++◌, length, map, flat_map}
use Rattle.std.specs.List.{filter}
use Rattle.meaning.specs.Values.{Value, Row}

-- A value, and whether it is new: it was received in the last round, or is a constant in the first one.
abbrev pub Marked : Type 0
Marked = Value × Bool

-- A row, and whether the last round could not be asked with it: one of its values is new, or no round was asked.
abbrev pub MarkedRow : Type 0
MarkedRow = Row × Bool

-- The rows that are one value longer: each row in order, with each of the values in order.
abbrev pub longer : List Marked → List MarkedRow → List MarkedRow
longer values rows = flat_map (λ row. map (λ v. (row.0 ++ v.0 ∷ [], row.1 || v.1)) values) rows

-- All rows of so many of the values. The empty row is new where no round was asked.
abbrev pub rows_of : Bool → List Marked → ℕ → List MarkedRow
rows_of first values zero = ([], first) ∷ []
rows_of first values (suc n) = longer values (rows_of first values n)

-- The rows of a class with so many inputs are the new ones of them.
abbrev pub class_rows : Bool → List Marked → ℕ → List Row
class_rows first values n = map (λ row. row.0) (filter (λ row. row.1) (rows_of first values n))

-- With which values a row goes on at the last input: with each one where it is new already, and else with the new ones.
abbrev pub last_values : List Marked → Bool → List Marked
last_values values mark = if mark then values else filter (λ v. v.1) values

-- The new ones of the values.
abbrev pub fresh_of : List Marked → List Value
fresh_of values = map (λ v. v.0) (filter (λ v. v.1) values)

-- How many of the values are new.
abbrev pub fresh_count : List Marked → ℕ
fresh_count values = length (filter (λ v. v.1) values)

-- How many rows a class has, by the number of its inputs, of the known values and of the new ones among them.
abbrev pub row_count : Bool → ℕ → ℕ → ℕ → ℕ
row_count first known fresh zero = if first then 1 else 0
row_count first known fresh (suc n) = fresh * known ^ n + (known - fresh) * row_count first known fresh n
