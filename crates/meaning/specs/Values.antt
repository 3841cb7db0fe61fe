-- Values and rows. A value is a text, seen as its bytes, and two values are equal exactly where their bytes are.
use Rattle.std.specs.Prelude.{ℕ, List}

abbrev pub Value : Type 0
Value = List ℕ

abbrev pub Row : Type 0
Row = List Value
