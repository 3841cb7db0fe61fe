use Rattle.std.proofs.Common.{ap}
use Rattle.std.specs.Prelude.{option_copied}
use Rattle.data_verify.proofs.Lowest.{below_is}
use Rattle.data_verify.proofs.inclusion.is_below.Goals as goal

pub returns-in-Some : goal.returns-in-Some
returns-in-Some c = below_is c.args.fact.now c.in-Some.first.now (option_copied c.args.least) c.cmp.result c.is_lt.result (ap option_copied c.in-Some.is) c.cmp.ensures c.is_lt.ensures
