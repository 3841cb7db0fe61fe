-- What a crawl has received, and how it goes on by answers.
use Rattle.std.specs.Prelude.{◌≡◌, ◌↔◌, ◌⊎◌, ◌+◌, ℕ, List, [], ◌∷◌, Contains, length, map}
use Rattle.std.specs.List.Sorted.{IsStrictlySortedBy}
use Rattle.std.specs.Ordering.{nat_cmp}
use Rattle.std.specs.Cmp.Lexicographic.{slice_cmp}
use Rattle.meaning.specs.declared.types.Fact.{Fact}
use Rattle.meaning.specs.Values.{Value, Row}
use Rattle.source_trait.specs.Asking.{RowList}
use Rattle.source_trait.specs.declared.work.Ask.{Ask}
use Rattle.crawl_rounds.specs.Log.{Answered, IsAmong}
use Rattle.crawl.specs.Finding.{Finds}
use Rattle.crawl.specs.declared.known.KnownValues.{KnownValues}
use Rattle.crawl.specs.declared.progress.Progress.{Progress}

-- a fact by its relation and its row
abbrev pub fact_of : ℕ × Row → Fact
fact_of received = record { rel = received.0; row = received.1 }

-- the facts that were received, as often as they came
abbrev pub facts_of : Progress → List Fact
facts_of progress = map fact_of progress.received.items

-- The progress grew by these found values and these facts. What is known and the counts stay.
pub record Gains (IsTaken : Value → Type 0) (IsNew : Fact → Type 0) (old new : Progress) : Type 0 where
  pub known : new.known ≡ old.known
  pub values : Finds old.known.all.keys IsTaken old.found.list.items new.found.list.items
  pub facts : (fact : Fact) → Contains (facts_of new) fact ↔ (Contains (facts_of old) fact ⊎ IsNew fact)
  pub made : new.made ≡ old.made
  pub rounds : new.rounds ≡ old.rounds

-- the value stands in one of the rows
abbrev pub StandsIn : RowList → Value → Type 0
StandsIn rows value = (row : Row) × Contains rows row × Contains row value

-- the fact is one of the relation with one of the rows
abbrev pub IsRowOf : ℕ → RowList → Fact → Type 0
IsRowOf rel rows fact = (rel ≡ fact.rel) × Contains rows fact.row

-- the value stands in a row of one of the answers
abbrev pub StandsInAnswers : List Answered → Value → Type 0
StandsInAnswers answers value = (answered : Answered) × Contains answers answered × StandsIn answered.rows value

-- the requests that were asked, with their answers
abbrev pub answered_by : List Ask → List RowList → List Answered
answered_by [] answers = []
answered_by (ask ∷ asks) [] = []
answered_by (ask ∷ asks) (rows ∷ answers) = record { request = ask.request; rows = rows } ∷ answered_by asks answers

-- the values of the requests are known
abbrev pub AreKnownTo : List Ask → KnownValues → Type 0
AreKnownTo asks known = (ask : Ask) → Contains asks ask → (v : Value) → Contains ask.request.values v → Contains known.all.keys v

-- A round was answered: just what its answers brought is new now.
pub record TakesRound (answers : List Answered) (old new : Progress) : Type 0 where
  pub all : (v : Value) → Contains new.known.all.keys v ↔ (Contains old.known.all.keys v ⊎ StandsInAnswers answers v)
  pub fresh : (v : Value) → Contains new.known.fresh.items v ↔ (StandsInAnswers answers v × (Contains old.known.all.keys v → ⊥))
  pub ascend : IsStrictlySortedBy (slice_cmp nat_cmp) new.known.fresh.items
  pub facts : (fact : Fact) → Contains (facts_of new) fact ↔ (Contains (facts_of old) fact ⊎ IsAmong answers fact)
  pub made : new.made ≡ old.made + length answers
  pub rounds : new.rounds ≡ old.rounds + 1

-- Before the first round these constants are known, and all of them are new.
pub record BeginsWith (constants : List Value) (progress : Progress) : Type 0 where
  pub all : (v : Value) → Contains progress.known.all.keys v ↔ Contains constants v
  pub fresh : (v : Value) → Contains progress.known.fresh.items v ↔ Contains constants v
  pub ascend : IsStrictlySortedBy (slice_cmp nat_cmp) progress.known.fresh.items
  pub received : progress.received.items ≡ []
  pub made : progress.made ≡ 0
  pub rounds : progress.rounds ≡ 0
