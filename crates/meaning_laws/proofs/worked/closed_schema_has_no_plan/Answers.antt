use Rattle.meaning_laws.proofs.Example.{small_no_plan}
use Rattle.meaning_laws.proofs.worked.closed_schema_has_no_plan.Goals as goal

pub returns : goal.returns
returns c = small_no_plan
