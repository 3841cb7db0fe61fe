use Rattle.std.proofs.Common.{rules}
use Rattle.homomorphism.proofs.Exact.{key_apart}
use Rattle.homomorphism.proofs.coded_lists.CodedLists.strike_other.Goals as goal

pub returns-in-Some-clause-apart : goal.returns-in-Some-clause-apart
returns-in-Some-clause-apart c = λ other differ. ((c.get_mut.follows.holds c.drop_last_if.new.self).3 (search rules)).2 other (key_apart c.args.key.now other differ)
