use Rattle.std.proofs.Common.{◌↔◌, ℕ, take}
use Rattle.std.specs.Prelude.{Contains}
use Rattle.middleware.specs.Sources.{BranchesAccess}
use Rattle.middleware.proofs.accesses.accessed.Given as goal

abbrev pub invariant-loop-branch : goal.invariant-loop-branch
invariant-loop-branch l = (rel : ℕ) → Contains l.rels.items rel ↔ BranchesAccess l.schema (take l.branch-index l.branch-items) rel
