use Rattle.std.proofs.Common.{◌≡◌, ◌++◌, take}
use Rattle.access_schema.specs.Meaning.{meaning_of}
use Rattle.no_plan_witness.specs.Standing.{integers_in}
use Rattle.no_plan_witness.proofs.labels.add_integers.Given as goal

-- the labels of the facts so far are added
abbrev pub invariant-loop-fact : goal.invariant-loop-fact
invariant-loop-fact l = l.labels.items ≡ l.fn.labels.items ++ integers_in (meaning_of l.schema) (take l.fact-index l.facts)
