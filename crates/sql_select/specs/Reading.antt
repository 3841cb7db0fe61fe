-- The selects read step by step.
use Rattle.std.specs.Prelude.{◌≡◌, ◌≤◌, ℕ, List, [], ◌∷◌, ◌++◌, length, Option, Some, None, Result, Ok, Err}
use Rattle.sql_select.specs.declared.piece.Piece.{Piece}
use Rattle.sql_select.specs.declared.state.State.{State}
use Rattle.sql_select.specs.declared.state.State.TheVariants as state
use Rattle.sql_select.specs.declared.state.Done.{Done}
use Rattle.sql_select.specs.declared.state.Done.TheVariants as done
use Rattle.sql_select.specs.declared.piece.RawSelect.{RawSelect}
use Rattle.sql_select.specs.declared.reading.Walk.{Walk}
use Rattle.sql_select.specs.declared.reading.WalkFault.{WalkFault}
use Rattle.sql_select.specs.declared.reading.WalkFault.TheVariants as fault
use Rattle.pq_text.specs.declared.token.Token.{Token}
use Rattle.sql_select.specs.Steps.{step_of, ending_of}
use Rattle.sql_select.specs.Words.{pieces_of}
use Rattle.sql_select.specs.Grammar.{S0, StopsAt}

abbrev pub empty : RawSelect
empty = record { items = []; froms = []; conditions = [] }

abbrev pub added : Done → RawSelect → RawSelect
added done.Nothing raw = raw
added (done.Item item) raw = record { items = raw.items ++ item ∷ []; froms = raw.froms; conditions = raw.conditions }
added (done.From from) raw = record { items = raw.items; froms = raw.froms ++ from ∷ []; conditions = raw.conditions }
added (done.Condition condition) raw = record { items = raw.items; froms = raw.froms; conditions = raw.conditions ++ condition ∷ [] }

-- nothing is read yet
abbrev pub started : Walk
started = record { finished = []; raw = empty }

-- What a step finished is added to the select that is being read.
abbrev pub kept : Done → Walk → Walk
kept d walk = record { finished = walk.finished; raw = added d walk.raw }

-- Where a select is to begin, the one before is finished.
abbrev pub entered : State → Walk → Walk
entered state.Start walk = record { finished = walk.finished ++ walk.raw ∷ []; raw = empty }
entered s walk = walk

abbrev pub ended : Option Done → Walk → Result (List RawSelect) (List Piece)
ended None walk = Err []
ended (Some d) walk = Ok (walk.finished ++ added d walk.raw ∷ [])

abbrev pub moved : Option (State × Done) → Walk → List Piece → (State → Walk → Result (List RawSelect) (List Piece)) →
    Result (List RawSelect) (List Piece)
moved None walk left go = Err left
moved (Some (s, d)) walk left go = go s (entered s (kept d walk))

-- the selects, or the pieces that are left at the first that is not listed
abbrev pub read : State → Walk → List Piece → Result (List RawSelect) (List Piece)
read s walk [] = ended (ending_of s) walk
read s walk (p ∷ ps) = moved (step_of s p) walk (p ∷ ps) (λ s' walk'. read s' walk' ps)

abbrev pub IsReading : Result (List RawSelect) WalkFault → Result (List RawSelect) (List Piece) → Type 0
IsReading (Ok raws) reading = reading ≡ Ok raws
IsReading (Err fault.NoMemory) reading = Unit {0}
IsReading (Err (fault.At left)) reading = (after : List Piece) × (reading ≡ Err after) × (length after ≡ left)

-- no more tokens are left than this
abbrev pub LeavesAtMost : ℕ → WalkFault → Type 0
LeavesAtMost most fault.NoMemory = Unit {0}
LeavesAtMost most (fault.At left) = left ≤ most

-- The last tokens, as many as are left, are where the text stops being a query.
abbrev pub IsFaultOf : List ℕ → List Token → WalkFault → Type 0
IsFaultOf text tokens fault.NoMemory = Unit {0}
IsFaultOf text tokens (fault.At left) =
    (before : List Token) × (after : List Token) × (tokens ≡ before ++ after) × (length after ≡ left) × StopsAt S0 (pieces_of text tokens) (pieces_of text after)
