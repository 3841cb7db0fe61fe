use Rattle.std.proofs.Common.{◌≡◌, ℕ, take, Some}
use Rattle.std.specs.Prelude.{Contains, slice_get}
use Rattle.accessible_copy.specs.declared.ways.Way.{Way}
use Rattle.accessible_copy.specs.Known.{known_values, facts_of}
use Rattle.accessible_copy.specs.Listing.{AreInputs}
use Rattle.accessible_copy.proofs.open_facts.OpenFacts.can_ask.Given as goal

abbrev pub invariant-loop-number : goal.invariant-loop-number
invariant-loop-number l = (number : ℕ) (way : Way) → Contains (take l.number-index l.numbers) number → slice_get l.self.ways.items number ≡ Some way →
    AreInputs (known_values l.known.constants (facts_of l.known.exposed)) way.inputs l.fact.vals → ⊥
