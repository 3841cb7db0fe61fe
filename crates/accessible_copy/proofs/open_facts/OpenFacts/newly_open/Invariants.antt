use Rattle.std.proofs.Common.{ℕ, ◌++◌, take, drop}
use Rattle.std.specs.Prelude.{◌⊎◌, Contains}
use Rattle.accessible_copy.specs.Known.{known_values, facts_of}
use Rattle.accessible_copy.specs.OpenFacts.{IsOpen}
use Rattle.accessible_copy.proofs.open_facts.OpenFacts.newly_open.Given as goal

abbrev pub invariant-loop-place : goal.invariant-loop-place
invariant-loop-place l = (n : ℕ) →
    IsOpen l.self.ways.items l.facts (take l.place (known_values l.known.constants (facts_of l.known.exposed))) (facts_of l.known.exposed) n →
    IsOpen l.self.ways.items l.facts (take l.width (known_values l.known.constants (facts_of l.known.exposed))) (facts_of l.known.exposed) n ⊎ Contains (drop l.self.passed l.self.listed.items ++ l.numbers.items) n
