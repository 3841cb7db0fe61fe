-- Marks at numbers.
use Rattle.std.specs.Prelude.{ℕ, List, [], ◌∷◌, Bool, true, false, ◌&&◌, not, slice_index_or, slice_set}
use Rattle.std.specs.List.{list_any, list_all}
use Rattle.access_schema.specs.declared.recursion.Link.{Link}

-- whether some number is marked
abbrev pub any_marked : List Bool → List ℕ → Bool
any_marked marks numbers = list_any (λ number. slice_index_or marks number false) numbers

-- whether each number is marked
abbrev pub all_marked : List Bool → List ℕ → Bool
all_marked marks numbers = list_all (λ number. slice_index_or marks number false) numbers

-- the marks with one at each of the numbers
abbrev pub with_marks : List Bool → List ℕ → List Bool
with_marks marks [] = marks
with_marks marks (number ∷ numbers) = with_marks (slice_set marks number true) numbers

-- a link of which some relation of the body is marked, and not each of the head
abbrev pub is_open : List Bool → Link → Bool
is_open marks link = any_marked marks link.body && not (all_marked marks link.head)
