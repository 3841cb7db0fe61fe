use Rattle.std.proofs.Common.{◌≡◌, ◌≤◌, ℕ, List, length, take}
use Rattle.meaning.specs.declared.types.Ground.{Ground}
use Rattle.accessible_copy.specs.declared.entry.Exposed.{Exposed}
use Rattle.least_search.specs.declared.space.Move.{Move}
use Rattle.exposure_search.specs.Making.{all_made}
use Rattle.exposure_search.proofs.going.common_front.Given as goal

-- the first moves so far made the first exposures
pub record IsFront (base : List Ground) (exposed : List Exposed) (path : List Move) (number : ℕ) : Type 0 where
  pub exposed_has : number ≤ length exposed
  pub made : take number exposed ≡ all_made base (take number path)

abbrev pub invariant-loop-number : goal.invariant-loop-number
invariant-loop-number l = IsFront l.facts l.proof.exposed l.path l.number
