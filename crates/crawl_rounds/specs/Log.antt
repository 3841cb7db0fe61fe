-- What a crawl asked and received, round by round, with no instance in it.
use Rattle.std.specs.Prelude.{◌≡◌, ◌⊎◌, ◌↔◌, ◌<◌, Bool, true, false, List, [], ◌∷◌, ◌++◌, Contains, length, map}
use Rattle.meaning.specs.declared.types.SchemaParts.{SchemaParts}
use Rattle.meaning.specs.declared.types.Fact.{Fact}
use Rattle.meaning.specs.declared.types.Request.{Request}
use Rattle.meaning.specs.Values.{Value, Row}
use Rattle.meaning.specs.Crawls.{IsPicked}
use Rattle.crawl_rounds.specs.Rows.{Marked}
use Rattle.crawl_rounds.specs.Rounds.{Class, AreClasses, round_requests, AreKnown}

-- A request with the rows of its answer.
pub record Answered : Type 0 where
  pub request : Request
  pub rows : List Row

abbrev pub requests_of : List Answered → List Request
requests_of answers = map (λ answered. answered.request) answers

-- A log is rounds of requests with their answers, the last one first.
abbrev pub Log : Type 0
Log = List (List Answered)

-- All its answers, the first one first, and its rounds of requests in that order.
abbrev pub answers_of : Log → List Answered
answers_of [] = []
answers_of (round ∷ earlier) = answers_of earlier ++ round

abbrev pub rounds_of : Log → List (List Request)
rounds_of [] = []
rounds_of (round ∷ earlier) = rounds_of earlier ++ requests_of round ∷ []

-- A value is given where it is a constant of the list or stands in a row of one of the answers.
abbrev pub IsGiven : List Value → List Answered → Value → Type 0
IsGiven constants answers value =
    Contains constants value
    ⊎ ((answered : Answered) × Contains answers answered × ((row : Row) × Contains answered.rows row × Contains row value))

-- What was given before the last round: nothing, where there was none.
abbrev pub WasGiven : List Value → Log → Value → Type 0
WasGiven constants [] value = ⊥
WasGiven constants (round ∷ earlier) value = IsGiven constants (answers_of earlier) value

-- Whether no round was asked.
abbrev pub is_begin : Log → Bool
is_begin [] = true
is_begin (round ∷ earlier) = false

-- The next round after a log is found from the given values, marked by what was given before.
pub record IsNextRound (schema : SchemaParts) (constants : List Value) (log : Log) (round : List Request) : Type 0 where
  pub values : List Marked
  pub classes : List Class
  pub known : AreKnown (WasGiven constants log) (IsGiven constants (answers_of log)) values
  pub are : AreClasses schema.methods classes
  pub round_is : round ≡ round_requests (is_begin log) values classes

-- A log is one of a crawl where each of its rounds is the next after those before it, and has a request.
abbrev pub IsCrawlLog : SchemaParts → List Value → Log → Type 0
IsCrawlLog schema constants [] = Unit {0}
IsCrawlLog schema constants (round ∷ earlier) =
    IsNextRound schema constants earlier (requests_of round) × (0 < length round) × IsCrawlLog schema constants earlier

-- Answers are those of an instance where each has just the rows of the facts in the answer to its request.
abbrev pub AreOf : List Fact → List Answered → Type 0
AreOf facts answers =
    (answered : Answered) → Contains answers answered → (row : Row) → Contains answered.rows row
    ↔ IsPicked facts answered.request (record { rel = answered.request.rel; row = row })

-- A fact is in the answers where one of its relation has its row.
abbrev pub IsAmong : List Answered → Fact → Type 0
IsAmong answers fact =
    (answered : Answered) × Contains answers answered × (answered.request.rel ≡ fact.rel) × Contains answered.rows fact.row
