-- The requests of a round, each for the source of its relation.
use Rattle.std.specs.Prelude.{ℕ, Bool, List, [], map, flat_map, length, Option, None, Some}
use Rattle.meaning.specs.Values.{Row}
use Rattle.access_schema.specs.declared.schema.Schema.{Schema}
use Rattle.access_schema.specs.declared.schema.SourceLine.{SourceLine}
use Rattle.source_trait.specs.declared.work.Ask.{Ask}
use Rattle.middleware.specs.PlanSources.{line_for}
use Rattle.crawl_rounds.specs.Rows.{Marked, class_rows}
use Rattle.crawl_rounds.specs.Rounds.{Class, request_of}

-- the kind of a source line, or the empty text
abbrev pub kind_of : Option SourceLine → List ℕ
kind_of None = []
kind_of (Some line) = line.kind

-- the request of a class with a row of values, for the source of its relation
abbrev pub ask_to : Schema → Class → Row → Ask
ask_to schema class row = record { kind = kind_of (line_for class.0 schema.sources); request = request_of class row }

-- those of a round: class by class, and row by row
abbrev pub round_asks : Schema → Bool → List Marked → List Class → List Ask
round_asks schema first values classes =
    flat_map (λ class. map (ask_to schema class) (class_rows first values (length class.1))) classes
