use Rattle.std.proofs.Common.{◌↔◌, ℕ, take}
use Rattle.std.specs.Prelude.{Contains}
use Rattle.plan_batches.specs.Needing.{StandsIn}
use Rattle.plan_batches.proofs.needs.joined.Given as goal

abbrev pub invariant-loop-one : goal.invariant-loop-one
invariant-loop-one l = (rel : ℕ) → Contains l.rels.items rel ↔ StandsIn (take l.one-index l.each) rel
