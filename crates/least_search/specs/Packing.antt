-- Sets of marks as numbers.
use Rattle.std.specs.Prelude.{ℕ, zero, suc, ◌+◌, ◌*◌, ◌/◌, List, [], ◌∷◌, Bool, true, false, length, drop}

-- A mark as a binary digit.
abbrev pub digit : Bool → ℕ
digit true = 1
digit false = 0

-- The first so many marks as the binary digits of a number, the first mark as the lowest digit.
abbrev pub word : ℕ → List Bool → ℕ
word zero set = 0
word (suc count) [] = 0
word (suc count) (mark ∷ set) = word count set * 2 + digit mark

-- The marks as so many numbers, 64 in each.
abbrev pub words : ℕ → List Bool → List ℕ
words zero set = []
words (suc count) set = word 64 set ∷ words count (drop 64 set)

-- How many marks there are, and the marks.
abbrev pub packed : List Bool → List ℕ
packed set = length set ∷ words (suc (length set / 64)) set
