use Rattle.std.proofs.Common.{◌≡◌, List, ℕ, map, take}
use Rattle.std.specs.Prelude.{flat_map}
use Rattle.source_trait.specs.Asking.{RowList}
use Rattle.middleware.specs.Joining.{OthersAreEmpty, grown, input_row_of}
use Rattle.middleware.proofs.partial_rows.join_each.Given as goal

abbrev pub invariant-loop-number : goal.invariant-loop-number
invariant-loop-number l = (answer : List (List ℕ) → RowList) → l.answers ≡ map answer l.requests → OthersAreEmpty l.places l.inputs l.requests l.rows answer
    → l.next ≡ flat_map (λ row. grown l.places (answer (input_row_of l.places l.inputs row)) row) (take l.number l.rows)
