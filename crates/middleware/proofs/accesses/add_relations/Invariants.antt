use Rattle.std.proofs.Common.{◌↔◌, ◌⊎◌, ℕ, take}
use Rattle.std.specs.Prelude.{Contains}
use Rattle.middleware.specs.Sources.{StepsAccess}
use Rattle.middleware.proofs.accesses.add_relations.Given as goal

abbrev pub invariant-loop-step : goal.invariant-loop-step
invariant-loop-step l = (rel : ℕ) → Contains l.into.items rel ↔ (Contains l.fn.into.items rel ⊎ StepsAccess l.schema (take l.step-index l.steps) rel)
