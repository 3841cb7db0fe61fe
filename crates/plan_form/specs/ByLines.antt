-- Lines that are read one behind another, each by what has been read so far.
use Rattle.std.specs.Prelude.{ℕ, List, [], ◌∷◌, Option, Some, None, Result, Ok, Err}
use Rattle.pq_text.specs.declared.lexeme.Lexeme.{Lexeme}
use Rattle.pq_text.specs.declared.lexeme.Line.{Line}

-- A line without tokens is passed over, and a line that does not fit is told by its number.
abbrev pub turn : {P : Type 0} → (P → Result P ℕ) → ℕ → P → List Lexeme → Option P → Result P ℕ
turn go number done [] read = go done
turn go number done (t ∷ ts) None = Err number
turn go number done (t ∷ ts) (Some more) = go more

-- What has been read behind the lines, where `next` reads one, or the number of the first line that does not fit.
abbrev pub progress_from : {P : Type 0} → (P → List Lexeme → Option P) → P → List Line → Result P ℕ
progress_from next done [] = Ok done
progress_from next done (line ∷ lines) =
    turn (λ more. progress_from next more lines) line.number done line.tokens (next done line.tokens)
