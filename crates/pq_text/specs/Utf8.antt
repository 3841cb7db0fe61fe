-- Where bytes stop being text, and what adds text to them.
use Rattle.std.specs.Prelude.{◌<◌, ℕ, List, length, take, drop}
use Rattle.std.specs.Str.{IsUtf8, StartsWithNoChar}

-- The bytes before the offset are characters, and no character begins at it.
pub record IsFirstBad (bytes : List ℕ) (offset : ℕ) : Type 0 where
  pub within : offset < length bytes
  pub before : IsUtf8 (take offset bytes)
  pub none : StartsWithNoChar (drop offset bytes)

-- Bytes that were UTF-8 are so again with what was written behind them.
abbrev pub KeepsUtf8 : List ℕ → List ℕ → Type 0
KeepsUtf8 old new = IsUtf8 old → IsUtf8 new
