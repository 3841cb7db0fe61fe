use Rattle.meaning_laws.proofs.Feeding.{feeder_fires_first, fed_rule_waits}
use Rattle.meaning_laws.proofs.worked.feeder_fires_first.Goals as goal

pub returns-clause-feeder : goal.returns-clause-feeder
returns-clause-feeder c = feeder_fires_first

pub returns-clause-fed : goal.returns-clause-fed
returns-clause-fed c = fed_rule_waits
