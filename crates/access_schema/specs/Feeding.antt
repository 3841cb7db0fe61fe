-- Chains of relations of which each feeds the next through the rules, and rules that are not recursive.
use Rattle.std.specs.Prelude.{ℕ, List, [], ◌∷◌}
use Rattle.meaning.specs.declared.types.Rule.{Rule}
use Rattle.meaning.specs.RuleOrder.{Feeds}

-- steps lead from the one number over those between to the other
abbrev pub IsChain : (ℕ → ℕ → Type 0) → ℕ → List ℕ → ℕ → Type 0
IsChain Step source [] target = Step source target
IsChain Step source (next ∷ between) target = Step source next × IsChain Step next between target

-- a chain of steps leads from some number back to itself
abbrev pub HasCycle : (ℕ → ℕ → Type 0) → Type 0
HasCycle Step = (number : ℕ) × (between : List ℕ) × IsChain Step number between number

-- a chain of feeding leads from some relation back to itself
abbrev pub AreRecursive : List Rule → Type 0
AreRecursive rules = HasCycle (Feeds rules)

-- no chain of feeding does
abbrev pub AreNonRecursive : List Rule → Type 0
AreNonRecursive rules = AreRecursive rules → ⊥
