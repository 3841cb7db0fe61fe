use Rattle.access_schema.specs.Meaning.{meaning_of}
use Rattle.no_plan_witness.proofs.Judging.{SharedBefore}
use Rattle.no_plan_witness.proofs.judge_witness.first_missing.Given as goal

-- no fact so far is missing
abbrev pub invariant-loop-fact : goal.invariant-loop-fact
invariant-loop-fact l = SharedBefore (meaning_of l.schema) l.constants l.pair.first l.pair.second l.fact-index
