use Rattle.std.proofs.Common.{◌≡◌, ◌++◌, take}
use Rattle.std.specs.Prelude.{flat_map, codes}
use Rattle.data_verify.specs.Telling.{fact_text}
use Rattle.data_verify.proofs.text.push_facts.Given as goal

abbrev pub invariant-loop-fact : goal.invariant-loop-fact
invariant-loop-fact l = l.out.items ≡ l.initial.out.items ++ flat_map (λ y. codes ", " ++ fact_text l.relations y) (take l.fact-index l.rest)
