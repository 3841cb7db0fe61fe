use Rattle.std.proofs.Common.{take}
use Rattle.std.specs.Prelude.{Contains}
use Rattle.meaning.specs.declared.types.Ground.{Ground}
use Rattle.proof_search.proofs.attempting.base_facts.Given as goal

-- the first facts are there
abbrev pub invariant-loop-number : goal.invariant-loop-number
invariant-loop-number l = (fact : Ground) → Contains (take l.number l.proof.end.base) fact → Contains l.facts fact
