-- Hashes of texts.
use Rattle.std.specs.Prelude.{◌+◌, ◌*◌, ◌%◌, ◌^◌, ℕ, List}
use Rattle.std.specs.List.{fold}

-- a hash with a text mixed in, byte by byte; the factor is that of the hashes of Fowler, Noll and Vo
abbrev pub mix : ℕ → List ℕ → ℕ
mix hash bytes = fold (λ h byte. ((h * 1099511628211) % 2 ^ 64 + byte) % 2 ^ 64) hash bytes
