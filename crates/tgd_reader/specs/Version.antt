-- Which version a schema text is of: version 2, where columns may be given sorts, is named on the first line with tokens.
use Rattle.std.specs.Prelude.{◌&&◌, ◌==◌, codes, nat_eq, Bool, true, false, List, [], ◌∷◌, length, Option, None, Some, if◌then◌else◌}
use Rattle.std.specs.Cmp.Lexicographic.{pointwise}
use Rattle.pq_text.specs.declared.lexeme.Lexeme.{Lexeme}
use Rattle.pq_text.specs.declared.lexeme.Line.{Line}
use Rattle.pq_text.specs.Lexemes.{is_word, is_number}

-- the number 2, in this spelling alone, with nothing behind it
abbrev pub is_two : List Lexeme → Bool
is_two [] = false
is_two (l ∷ ls) = is_number l && (pointwise nat_eq l.text (codes "2") && (length ls == 0))

-- whether the tokens are those of the line `schema 2`
abbrev pub says_version : List Lexeme → Bool
says_version [] = false
says_version (l ∷ ls) = is_word (codes "schema") l && is_two ls

abbrev pub next_version : List Line → List Lexeme → Option (List Line) → Option (List Line)
next_version behind [] found = found
next_version behind (t ∷ ts) found = if says_version (t ∷ ts) then Some behind else None

-- the lines behind the first with tokens, where that is the line `schema 2`
abbrev pub behind_version : List Line → Option (List Line)
behind_version [] = None
behind_version (line ∷ lines) = next_version lines line.tokens (behind_version lines)

abbrev pub version_of : List Line → Option (List Line) → Bool × List Line
version_of lines None = (false, lines)
version_of lines (Some behind) = (true, behind)

-- Whether the lines are of version 2, and the lines of declarations: in version 2 those behind the line that names it, and otherwise all.
abbrev pub told_version : List Line → Bool × List Line
told_version lines = version_of lines (behind_version lines)
