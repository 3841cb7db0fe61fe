-- What digits stand for.
use Rattle.std.specs.Prelude.{ℕ, List}
use Rattle.lists.specs.Digits.{value_from}

abbrev pub value_of : List ℕ → ℕ
value_of digits = value_from 0 digits
