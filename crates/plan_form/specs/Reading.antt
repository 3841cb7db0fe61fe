-- A plan text, read line by line from left to right: what inner functions do.
use Rattle.std.specs.Prelude.{◌≡◌, ◌&&◌, ◌++◌, ℕ, ◌^◌, codes, nat_lt, nat_le, List, [], ◌∷◌, length, Option, None, Some, Result, Ok, Err, if◌then◌else◌}
use Rattle.pq_text.specs.declared.lexeme.Lexeme.{Lexeme}
use Rattle.pq_text.specs.declared.lexeme.Line.{Line}
use Rattle.pq_text.specs.declared.cursor.Misfit.{Misfit}
use Rattle.pq_text.specs.declared.cursor.Misfit.TheVariants.{NoMemory, NoFit}
use Rattle.pq_text.specs.Lexemes.{◌>>=◌, symbol_at, word_at, name_at, value_at, number_at, word_next, end_at, members}
use Rattle.pq_text.specs.Numbers.{value_of}
use Rattle.meaning.specs.declared.types.Place.{Place}
use Rattle.meaning.specs.declared.types.Place.TheVariants.{Const, Col, New}
use Rattle.meaning.specs.declared.types.Out.{Out}
use Rattle.meaning.specs.declared.types.Out.TheVariants.{Const as Fixed, Col as Made}
use Rattle.meaning.specs.declared.types.Step.{Step}
use Rattle.meaning.specs.declared.types.Plan.{Plan}
use Rattle.plan_form.specs.declared.fault.PlanReadFault.{PlanReadFault}
use Rattle.plan_form.specs.declared.fault.PlanReadFault.TheVariants as faults
use Rattle.plan_form.specs.declared.progress.Progress.{Progress}
use Rattle.plan_form.specs.declared.progress.Progress.TheVariants.{Opening, Between, Inside, Ended}
use Rattle.plan_form.specs.ByLines as by_lines
use Rattle.plan_form.specs.Grammar.{is_decimal, IsFirstMisfit}

-- ---- lines

-- the number that is written so, without leading zeros, where it has 32 bits
abbrev pub plain_of : List ℕ → Option ℕ
plain_of digits = if is_decimal (value_of digits) digits && nat_lt (value_of digits) (2 ^ 32) then Some (value_of digits) else None

-- such a number at the front
abbrev pub plain_at : List Lexeme → Option (ℕ × List Lexeme)
plain_at ls = number_at ls >>= λ x. plain_of x.0 >>= λ n. Some (n, x.1)

-- $ Number
abbrev pub column_at : List Lexeme → Option (ℕ × List Lexeme)
column_at ls = symbol_at (codes "$") ls >>= λ behind. plain_at behind

-- new, or a VALUE
abbrev pub plain_place_at : List Lexeme → Option (Place × List Lexeme)
plain_place_at ls = if word_next (codes "new") ls then (word_at (codes "new") ls >>= λ r. Some (New, r)) else (value_at ls >>= λ x. Some (Const x.0, x.1))

-- a place that begins with $, or one that does not
abbrev pub place_or : List Lexeme → Option (List Lexeme) → Option (Place × List Lexeme)
place_or ls (Some behind) = plain_at behind >>= λ x. Some (Col x.0, x.1)
place_or ls None = plain_place_at ls

-- PLACE
abbrev pub place_at : List Lexeme → Option (Place × List Lexeme)
place_at ls = place_or ls (symbol_at (codes "$") ls)

-- an output place that begins with $, or one that does not
abbrev pub out_or : List Lexeme → Option (List Lexeme) → Option (Out × List Lexeme)
out_or ls (Some behind) = plain_at behind >>= λ x. Some (Made x.0, x.1)
out_or ls None = value_at ls >>= λ x. Some (Fixed x.0, x.1)

-- OUT
abbrev pub out_at : List Lexeme → Option (Out × List Lexeme)
out_at ls = out_or ls (symbol_at (codes "$") ls)

-- PLACE , ..
abbrev pub places_at : List Lexeme → Option (List Place × List Lexeme)
places_at ls = members place_at (length ls) [] ls

-- OUT , ..
abbrev pub outs_at : List Lexeme → Option (List Out × List Lexeme)
outs_at ls = members out_at (length ls) [] ls

-- plan Number
unfoldable pub opening_at : List Lexeme → Option (ℕ × List Lexeme)
opening_at ls = do
  behind ← word_at (codes "plan") ls
  width ← plain_at behind
  rest ← end_at width.1
  if nat_le 1 width.0 && nat_le width.0 64 then Some (width.0, rest) else None

-- access NAME ( PLACE , .. )
unfoldable pub access_at : List Lexeme → Option (Step × List Lexeme)
access_at ls = do
  behind ← word_at (codes "access") ls
  name ← name_at behind
  inside ← symbol_at (codes "(") name.1
  places ← places_at inside
  closed ← symbol_at (codes ")") places.1
  rest ← end_at closed
  Some (record { method = name.0; places = places.0 }, rest)

-- output OUT , ..
unfoldable pub output_at : List Lexeme → Option (List Out × List Lexeme)
output_at ls = do
  behind ← word_at (codes "output") ls
  outs ← outs_at behind
  rest ← end_at outs.1
  Some (outs.0, rest)

-- a line of one word
unfoldable pub lone_at : List ℕ → List Lexeme → Option (List Lexeme)
lone_at text ls = do
  behind ← word_at text ls
  end_at behind

-- ---- plans

-- the plan's parts behind a line
abbrev pub next_at : Progress → List Lexeme → Option Progress
next_at Opening ls = opening_at ls >>= λ x. Some (Between x.0 [])
next_at (Between width branches) ls =
    if word_next (codes "branch") ls then (lone_at (codes "branch") ls >>= λ r. Some (Inside width branches []))
    else (lone_at (codes "end") ls >>= λ r. Some (Ended (record { width = width; branches = branches })))
next_at (Inside width branches steps) ls =
    if word_next (codes "access") ls then (access_at ls >>= λ x. Some (Inside width branches (steps ++ x.0 ∷ [])))
    else (output_at ls >>= λ x. Some (Between width (branches ++ record { steps = steps; output = x.0 } ∷ [])))
next_at (Ended plan) ls = None

-- the plan's parts behind the lines, or the number of the first line that does not fit
abbrev pub progress_from : Progress → List Line → Result Progress ℕ
progress_from = by_lines.progress_from next_at

-- the plan, where its last line has been read
abbrev pub plan_of : Progress → Option Plan
plan_of Opening = None
plan_of (Between width branches) = None
plan_of (Inside width branches steps) = None
plan_of (Ended plan) = Some plan

-- A call gave what reading gives; memory may have run out.
abbrev pub GivesNext : Result Progress Misfit → Option Progress → Type 0
GivesNext (Ok x) read = read ≡ Some x
GivesNext (Err NoFit) read = read ≡ None
GivesNext (Err NoMemory) read = Unit {0}

abbrev pub ProgressGives : Result Progress PlanReadFault → Result Progress ℕ → Type 0
ProgressGives (Ok x) read = read ≡ Ok x
ProgressGives (Err (faults.Line number)) read = read ≡ Err number
ProgressGives (Err (faults.NotUtf8 offset)) read = ⊥
ProgressGives (Err faults.NoMemory) read = Unit {0}

-- The fault of a text is its first line that does not fit.
abbrev pub HasLineFault : List ℕ → PlanReadFault → Type 0
HasLineFault text faults.NoMemory = Unit {0}
HasLineFault text (faults.NotUtf8 offset) = ⊥
HasLineFault text (faults.Line number) = IsFirstMisfit text number
