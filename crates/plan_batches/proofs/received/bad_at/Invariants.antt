use Rattle.std.proofs.Common.{◌++◌, take}
use Rattle.std.specs.Prelude.{flat_map}
use Rattle.access_schema.specs.Meaning.{meaning_of}
use Rattle.source_trait.specs.Asking.{RowList}
use Rattle.bad_numbers.specs.Numbers.{FindsBad}
use Rattle.plan_batches.specs.Kept.{answers_at}
use Rattle.plan_batches.proofs.received.bad_at.Given as goal

abbrev pub invariant-loop-number : goal.invariant-loop-number
invariant-loop-number l = FindsBad (meaning_of l.schema) l.rel
    (flat_map (λ (rows : RowList). rows) (take l.number-index (answers_at (l.kept ++ l.round) l.numbers))) l.found
