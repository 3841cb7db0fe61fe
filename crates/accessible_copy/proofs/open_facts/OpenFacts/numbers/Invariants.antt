use Rattle.std.proofs.Common.{◌≡◌, ◌++◌, drop}
use Rattle.accessible_copy.proofs.open_facts.OpenFacts.numbers.Given as goal

abbrev pub invariant-loop-place : goal.invariant-loop-place
invariant-loop-place l = l.numbers.items ++ drop l.place l.self.listed.items ≡ drop l.self.passed l.self.listed.items
