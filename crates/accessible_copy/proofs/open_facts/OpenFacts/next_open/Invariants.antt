use Rattle.std.proofs.Common.{ℕ, List, drop}
use Rattle.std.specs.Prelude.{Contains}
use Rattle.meaning.specs.declared.types.Val.{Val}
use Rattle.accessible_copy.specs.Known.{facts_of}
use Rattle.accessible_copy.specs.OpenFacts.{IsOpen}
use Rattle.accessible_copy.proofs.open_facts.OpenFacts.next_open.Given as goal

abbrev pub invariant-loop-place : goal.invariant-loop-place
invariant-loop-place l = (values : List Val) (n : ℕ) → IsOpen l.self.ways.items l.facts values (facts_of l.known.exposed) n →
    Contains (drop l.self.passed l.self.listed.items) n → Contains (drop l.place l.self.listed.items) n
