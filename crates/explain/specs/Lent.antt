-- Pairs of instances whose rows are lent.
use Rattle.std.specs.Prelude.{ℕ, List, map}
use Rattle.fact_lines.specs.Lent.{Lent, lent_fact}
use Rattle.findings.specs.declared.refutation.Witness.{Witness}

-- the pair of facts that are lent, and an answer
abbrev pub lent_pair : List Lent → List Lent → List (List ℕ) → Witness
lent_pair first second answer = record { first = map lent_fact first; second = map lent_fact second; answer = answer }
