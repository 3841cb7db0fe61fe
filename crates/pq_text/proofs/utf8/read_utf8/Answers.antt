use Rattle.std.proofs.Common.{sym, subst}
use Rattle.pq_text.specs.Utf8.{IsFirstBad}
use Rattle.pq_text.proofs.Offsets.{first_bad}
use Rattle.pq_text.proofs.utf8.read_utf8.Goals as goal

pub returns-in-Err-clause-fault : goal.returns-in-Err-clause-fault
returns-in-Err-clause-fault c = subst (IsFirstBad c.args.bytes.now) (sym c.valid_up_to.ensures) (first_bad c.args.bytes.now c.in-Err.fault.valid_up_to c.in-Err.ensures.cases.1)
