use Rattle.std.proofs.Common.{◌≡◌, map, take}
use Rattle.meaning.specs.declared.types.Val.TheVariants.{Const}
use Rattle.meaning.specs.Matching.{value_of}
use Rattle.homomorphism.proofs.grounding.values_under.Given as goal

-- the values of the terms so far
abbrev pub invariant-loop-term : goal.invariant-loop-term
invariant-loop-term g l = l.vals.items ≡ map (value_of Const (g.A.Assigns.value_at l.assignment)) (take l.term-index l.terms)
