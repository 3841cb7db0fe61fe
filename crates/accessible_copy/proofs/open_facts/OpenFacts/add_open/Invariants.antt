use Rattle.std.proofs.Common.{ℕ, ◌++◌, take, drop}
use Rattle.std.specs.Prelude.{Contains}
use Rattle.accessible_copy.specs.Known.{known_values, facts_of}
use Rattle.accessible_copy.specs.OpenFacts.{IsOpen}
use Rattle.accessible_copy.proofs.open_facts.OpenFacts.add_open.Given as goal

abbrev pub invariant-loop-number : goal.invariant-loop-number
invariant-loop-number l =
    ((n : ℕ) → Contains l.fn.numbers.items n → Contains l.numbers.items n)
    × ((n : ℕ) → Contains (take l.number-index l.held) n →
    IsOpen l.self.ways.items l.facts (known_values l.known.constants (facts_of l.known.exposed)) (facts_of l.known.exposed) n →
    Contains (drop l.self.passed l.self.listed.items ++ l.numbers.items) n)
