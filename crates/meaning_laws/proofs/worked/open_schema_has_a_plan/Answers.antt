use Rattle.meaning_laws.proofs.Example.{small_plan}
use Rattle.meaning_laws.proofs.worked.open_schema_has_a_plan.Goals as goal

pub returns : goal.returns
returns c = small_plan
