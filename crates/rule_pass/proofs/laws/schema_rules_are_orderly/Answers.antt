use Rattle.rule_pass.proofs.Bounds.{orderly}
use Rattle.rule_pass.proofs.laws.schema_rules_are_orderly.Goals as goal

pub returns : goal.returns
returns c = orderly
