-- No rules, which fit every schema and do not lead round.
use Rattle.std.proofs.Common.{ℕ, List, [], ◌∷◌, arith}
use Rattle.meaning.specs.RuleOrder.{Feeds}
use Rattle.access_schema.specs.Feeding.{IsChain}
use Rattle.access_schema.specs.Invariant.{AreRules}
use Rattle.meaning.specs.declared.types.Relation.{Relation}

no_feeding : (source target : ℕ) → Feeds [] source target → ⊥
no_feeding source target feeds = let lt = feeds.of_rules.1 in omega arith

no_chain : (source : ℕ) (between : List ℕ) (target : ℕ) → IsChain (Feeds []) source between target → ⊥
no_chain source [] target chain = no_feeding source target chain
no_chain source (next ∷ between) target chain = no_feeding source next chain.0

pub no_rules : (relations : List Relation) (constants : List (List ℕ)) → AreRules relations constants []
no_rules relations constants = record {
  few = omega arith;
  fit = λ rule at. let lt = at.1 in absurd (omega arith);
  non_recursive = λ found. no_chain found.0 found.1 found.0 found.2;
}
