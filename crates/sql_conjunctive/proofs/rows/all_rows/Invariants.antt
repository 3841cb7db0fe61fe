use Rattle.std.proofs.Common.{List, take}
use Rattle.meaning.specs.declared.types.Fact.{Fact}
use Rattle.meaning.specs.Instances.{IsInstance}
use Rattle.access_schema.specs.Meaning.{meaning_of}
use Rattle.homomorphism.specs.Instances.{AreFactsOf}
use Rattle.sql_conjunctive.specs.Rows.{AreRowsOf}
use Rattle.sql_conjunctive.proofs.rows.all_rows.Given as goal

abbrev pub invariant-loop-select : goal.invariant-loop-select
invariant-loop-select l = (facts : List Fact) → IsInstance (meaning_of l.schema) facts → AreFactsOf facts l.store → AreRowsOf facts (take l.select-index l.selects) l.rows.items
