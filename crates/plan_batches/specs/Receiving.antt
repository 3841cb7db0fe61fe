-- What the steps of a round received, and the first bad number there.
use Rattle.std.specs.Prelude.{◌≡◌, ◌<◌, ℕ, List, Contains, Option, MatchOption, Some, flat_map, slice_get}
use Rattle.access_schema.specs.declared.schema.Schema.{Schema}
use Rattle.access_schema.specs.Meaning.{meaning_of}
use Rattle.source_trait.specs.Asking.{RowList}
use Rattle.bad_numbers.specs.Numbers.{HaveIntegers, IsBadColumn}
use Rattle.bad_numbers.specs.declared.found.BadNumber.{BadNumber}
use Rattle.plan_course.specs.declared.turns.Next.{Next}
use Rattle.plan_course.specs.declared.turns.Next.TheVariants as next
use Rattle.plan_batches.specs.Kept.{answers_at}
use Rattle.plan_batches.specs.declared.member.Going.{Going}
use Rattle.plan_batches.specs.declared.received.FirstBad.{FirstBad}

-- the rows of the answers of these numbers
abbrev pub rows_of : List RowList → List ℕ → RowList
rows_of kept numbers = flat_map (λ rows. rows) (answers_at kept numbers)

-- each row that a step received by these numbers has integers at integer columns; a plan that has no step left received none
abbrev pub GotIntegers : Schema → List RowList → Next → List ℕ → Type 0
GotIntegers schema kept (next.Wants pending) numbers = HaveIntegers (meaning_of schema) pending.method.rel (rows_of kept numbers)
GotIntegers schema kept (next.Done course) numbers = Unit {0}

-- the relation of a step, and the least column with a bad number of what it received by these numbers
abbrev pub GotBad : Schema → List RowList → Next → List ℕ → ℕ → ℕ → Type 0
GotBad schema kept (next.Wants pending) numbers rel column =
    (rel ≡ pending.method.rel) × IsBadColumn (meaning_of schema) pending.method.rel (rows_of kept numbers) column
GotBad schema kept (next.Done course) numbers rel column = ⊥

module _ (schema : Schema) (kept : List RowList) where
  abbrev pub HasIntegers : Going → Type 0
  HasIntegers going = GotIntegers schema kept going.next going.numbers.items

  -- what is found of a step
  abbrev pub FindsOf : Going → Option BadNumber → Type 0
  FindsOf going found = MatchOption found (HasIntegers going) (λ bad. GotBad schema kept going.next going.numbers.items bad.rel bad.column)

  -- no step received a bad number
  abbrev pub HaveNoBad : List Going → Type 0
  HaveNoBad goings = (going : Going) → Contains goings going → HasIntegers going

  -- the plan is the first whose step received a bad number
  pub record IsFirstBad (goings : List Going) (bad : FirstBad) : Type 0 where
    pub going : Going
    pub at : slice_get goings bad.plan ≡ Some going
    pub got : GotBad schema kept going.next going.numbers.items bad.rel bad.column
    pub before : (k : ℕ) (other : Going) → k < bad.plan → slice_get goings k ≡ Some other → HasIntegers other

  -- what is found of them: the first plan, and none exactly where there is no such plan
  abbrev pub FindsFirst : List Going → Option FirstBad → Type 0
  FindsFirst goings found = MatchOption found (HaveNoBad goings) (IsFirstBad goings)
