use Rattle.std.proofs.Common.{◌≡◌, ℕ, List, take}
use Rattle.meaning.specs.declared.types.SchemaParts.{SchemaParts}
use Rattle.access_schema.specs.Meaning.{meaning_of}
use Rattle.accessible_copy.specs.Proving.{Proving}
use Rattle.least_search.specs.declared.space.Move.{Move}
use Rattle.exposure_search.specs.Making.{OnlyExposes, SameBase, all_made}
use Rattle.exposure_search.proofs.going.go_along.Given as goal

-- the exposures are those of the first moves
pub record IsOnPath (schema : SchemaParts) (old new : Proving) (path : List Move) (number : ℕ) : Type 0 where
  pub exposes : OnlyExposes schema new
  pub same : SameBase old new
  pub made : new.exposed ≡ all_made old.end.base (take number path)

abbrev pub invariant-loop-number : goal.invariant-loop-number
invariant-loop-number l = IsOnPath (meaning_of l.schema) l.fn.proof l.proof l.path l.number
