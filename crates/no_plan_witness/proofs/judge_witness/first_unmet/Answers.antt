use Rattle.access_schema.specs.Meaning.{meaning_of}
use Rattle.no_plan_witness.proofs.Judging.{broken_unmet}
use Rattle.no_plan_witness.proofs.judge_witness.first_unmet.Goals as goal

pub returns-in-Some-clause-some : goal.returns-in-Some-clause-some
returns-in-Some-clause-some c = broken_unmet (meaning_of c.args.schema.now) c.args.facts.now c.in-Some.broken (rw c.in-Some.is at c.in_ok-broken.ensures.broken)
