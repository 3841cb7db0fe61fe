-- A refutation, read line by line from left to right: what inner functions do.
use Rattle.std.specs.Prelude.{◌≡◌, ◌++◌, ℕ, zero, suc, codes, nat_eq, Bool, false, List, [], ◌∷◌, length, ◌==◌, Option, None, Some, Result, Ok, Err, slice_get, if◌then◌else◌}
use Rattle.std.specs.Cmp.Lexicographic.{pointwise}
use Rattle.pq_text.specs.declared.lexeme.Lexeme.{Lexeme}
use Rattle.pq_text.specs.declared.lexeme.Line.{Line}
use Rattle.pq_text.specs.declared.cursor.Misfit.{Misfit}
use Rattle.pq_text.specs.declared.cursor.Misfit.TheVariants.{NoMemory, NoFit}
use Rattle.pq_text.specs.Lexemes.{◌>>=◌, symbol_at, word_at, name_at, values_at, is_word, end_at}
use Rattle.meaning.specs.declared.types.Relation.{Relation}
use Rattle.meaning.specs.declared.types.Fact.{Fact}
use Rattle.access_schema.specs.declared.schema.Schema.{Schema}
use Rattle.plan_form.specs.ByLines as by_lines
use Rattle.findings.specs.declared.refutation.Witness.{Witness}
use Rattle.explain.specs.declared.fault.WitnessReadFault.{WitnessReadFault}
use Rattle.explain.specs.declared.fault.WitnessReadFault.TheVariants as faults
use Rattle.explain.specs.declared.progress.Progress.{Progress}
use Rattle.explain.specs.declared.progress.Progress.TheVariants.{Opening, Opened, Answered, First, Second, Ended}
use Rattle.explain.specs.Grammar.{IsFirstMisfit}

-- ---- relations

-- the number of the first relation of that name, or how many relations there are
abbrev pub number_of : List Relation → List ℕ → ℕ
number_of [] name = zero
number_of (relation ∷ relations) name = if pointwise nat_eq relation.name name then zero else suc (number_of relations name)

-- the fact of a relation, where it has so many columns
abbrev pub fact_with : ℕ → List (List ℕ) → Option Relation → Option Fact
fact_with rel row None = None
fact_with rel row (Some relation) = if length row == length relation.columns then Some (record { rel = rel; row = row }) else None

-- the fact of the relation of that name
abbrev pub fact_of : List Relation → List ℕ → List (List ℕ) → Option Fact
fact_of relations name row = fact_with (number_of relations name) row (slice_get relations (number_of relations name))

-- ---- lines

-- whether the line is that word alone
abbrev pub is_lone : List ℕ → List Lexeme → Bool
is_lone text [] = false
is_lone text (l ∷ []) = is_word text l
is_lone text (l ∷ m ∷ ls) = false

-- no plan
unfoldable pub opening_at : List Lexeme → Option (List Lexeme)
opening_at ls = do
  behind ← word_at (codes "no") ls
  after ← word_at (codes "plan") behind
  end_at after

-- answer VALUE , ..
unfoldable pub answer_at : List Lexeme → Option (List (List ℕ) × List Lexeme)
answer_at ls = do
  behind ← word_at (codes "answer") ls
  answer ← values_at behind
  rest ← end_at answer.1
  Some (answer.0, rest)

-- NAME ( VALUE , .. )
unfoldable pub fact_at : List Relation → List Lexeme → Option (Fact × List Lexeme)
fact_at relations ls = do
  name ← name_at ls
  inside ← symbol_at (codes "(") name.1
  row ← values_at inside
  closed ← symbol_at (codes ")") row.1
  rest ← end_at closed
  fact ← fact_of relations name.0 row.0
  Some (fact, rest)

-- ---- refutations

-- the opening line has been read
abbrev pub opened_at : List Lexeme → Option Progress
opened_at ls = opening_at ls >>= λ r. Some Opened

-- the facts of the first instance begin
abbrev pub begun_at : List (List ℕ) → List Lexeme → Option Progress
begun_at answer ls = if is_lone (codes "first") ls then Some (First answer []) else None

-- what has been read behind a line
abbrev pub next_at : Schema → Progress → List Lexeme → Option Progress
next_at schema Opening ls = opened_at ls
next_at schema Opened ls = answer_at ls >>= λ x. Some (Answered x.0)
next_at schema (Answered answer) ls = begun_at answer ls
next_at schema (First answer first) ls =
    if is_lone (codes "second") ls then Some (Second answer first []) else (fact_at schema.relations ls >>= λ x. Some (First answer (first ++ x.0 ∷ [])))
next_at schema (Second answer first second) ls =
    if is_lone (codes "end") ls then Some (Ended (record { first = first; second = second; answer = answer }))
    else (fact_at schema.relations ls >>= λ x. Some (Second answer first (second ++ x.0 ∷ [])))
next_at schema (Ended pair) ls = None

-- what has been read behind the lines, or the number of the first line that does not fit
abbrev pub progress_from : Schema → Progress → List Line → Result Progress ℕ
progress_from schema = by_lines.progress_from (next_at schema)

-- the pair, where its last line has been read
abbrev pub witness_of : Progress → Option Witness
witness_of Opening = None
witness_of Opened = None
witness_of (Answered answer) = None
witness_of (First answer first) = None
witness_of (Second answer first second) = None
witness_of (Ended pair) = Some pair

-- A call gave what reading gives; memory may have run out.
abbrev pub GivesNext : Result Progress Misfit → Option Progress → Type 0
GivesNext (Ok x) read = read ≡ Some x
GivesNext (Err NoFit) read = read ≡ None
GivesNext (Err NoMemory) read = Unit {0}

abbrev pub ProgressGives : Result Progress WitnessReadFault → Result Progress ℕ → Type 0
ProgressGives (Ok x) read = read ≡ Ok x
ProgressGives (Err (faults.Line number)) read = read ≡ Err number
ProgressGives (Err (faults.NotUtf8 offset)) read = ⊥
ProgressGives (Err faults.NoMemory) read = Unit {0}

-- The fault of a text is its first line that does not fit.
abbrev pub HasLineFault : Schema → List ℕ → WitnessReadFault → Type 0
HasLineFault schema text faults.NoMemory = Unit {0}
HasLineFault schema text (faults.NotUtf8 offset) = ⊥
HasLineFault schema text (faults.Line number) = IsFirstMisfit schema text number
