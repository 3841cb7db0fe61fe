-- The head of a list.
use Rattle.std.specs.Prelude.{ℕ, List, take, Option, None, Some}

-- the first so many of a list, or all where there is no such number
abbrev pub head_of : Option ℕ → List ℕ → List ℕ
head_of None list = list
head_of (Some n) list = take n list
