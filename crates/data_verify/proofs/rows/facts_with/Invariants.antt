use Rattle.std.proofs.Common.{◌≡◌, ℕ, List, map, take}
use Rattle.data_verify.specs.Breaking.{row_under, facts_under}
use Rattle.data_verify.proofs.rows.facts_with.Given as goal

abbrev pub invariant-loop-place : goal.invariant-loop-place
invariant-loop-place l = (a : ℕ → List ℕ) → l.rows ≡ map (row_under a) l.atoms → l.facts.items ≡ facts_under a (take l.place l.atoms)
