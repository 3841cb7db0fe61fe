-- Plain texts: commas and line feeds alone cut them into fields and records.
use Rattle.std.specs.Prelude.{◌≡◌, false, ℕ, List}
use Rattle.std.specs.List.{All}
use Rattle.memchr.specs.Find.{is_byte2}

-- a text without quotes and carriage returns
abbrev pub IsPlain : List ℕ → Type 0
IsPlain text = All (λ c. is_byte2 34 13 c ≡ false) text
