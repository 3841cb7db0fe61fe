use Rattle.std.proofs.Common.{sym}
use Rattle.access_schema.proofs.wrong_sort.has_wrong_sort.Goals as goal

pub returns-in-Rule : goal.returns-in-Rule
returns-in-Rule c = rw (c.in-Rule.is, sym c.as_slice.ensures, sym c.as_slice-in-Rule.ensures) c.rule_has_wrong_sort.ensures
