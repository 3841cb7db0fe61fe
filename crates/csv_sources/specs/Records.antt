-- The records that a reader of a text has left.
use Rattle.std.specs.Prelude.{◌≡◌, ◌+◌, ℕ, List, [], length, Option, None, Some, IsSome}
use Rattle.csv.specs.Reading.{Ready, default_config, reader_config, reader_state, reader_trim, records_from, source_of}
use Rattle.csv.specs.declared.parser.State.{State}
use Rattle.csv.specs.declared.reader.Reader.{Reader}
use Rattle.csv.specs.declared.reader.Trim.TheVariants as trim
use denote.Ref.{Bor}

-- the bytes that are left, where the reader has not failed
abbrev pub bytes_left : Reader (Bor (List ℕ)) → Option (List ℕ)
bytes_left reader = source_of (λ slice. Some slice.now) reader

-- the records of the bytes that are left, if any
abbrev pub records_of : State → Option (List ℕ) → List (List (List ℕ))
records_of state None = []
records_of state (Some bytes) = records_from default_config (length bytes + 1) state bytes

abbrev pub records_left : Reader (Bor (List ℕ)) → List (List (List ℕ))
records_left reader = records_of (reader_state reader) (bytes_left reader)

-- the reader reads as the crate's defaults say, with no header of its own, and has not failed
pub record IsReading (reader : Reader (Bor (List ℕ))) : Type 0 where
  pub config : reader_config reader ≡ default_config
  pub trim : reader_trim reader ≡ trim.None
  pub ready : Ready reader
  pub going : IsSome (bytes_left reader)
