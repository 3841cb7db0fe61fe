-- Bad numbers among answers: values at integer columns that are no integers.
use Rattle.std.specs.Prelude.{ℕ, List}
use Rattle.meaning.specs.declared.types.Fact.{Fact}
use Rattle.meaning.specs.declared.types.SchemaParts.{SchemaParts}
use Rattle.meaning.specs.Matching.{itself}
use Rattle.meaning.specs.Sorts.{AreSorted}
use Rattle.bad_numbers.specs.Found.{IsFirstBad}
use Rattle.crawl_rounds.specs.Log.{Answered, IsAmong}

-- Each fact among the answers has integers at its integer columns.
abbrev pub BringIntegers : SchemaParts → List Answered → Type 0
BringIntegers schema answers = (fact : Fact) → IsAmong answers fact → AreSorted itself schema fact.rel fact.row

-- Of the integer columns at which a fact among them has another value, this is the least one of the least relation.
abbrev pub BringFirstBad : SchemaParts → List Answered → ℕ → ℕ → Type 0
BringFirstBad schema answers rel column = IsFirstBad schema (IsAmong answers) (record { rel = rel; column = column })
