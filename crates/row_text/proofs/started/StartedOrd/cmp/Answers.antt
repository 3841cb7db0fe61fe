use Rattle.row_text.proofs.Starts.{number-decides}
use Rattle.row_text.proofs.started.StartedOrd.cmp.Goals as goal

pub returns-in_default : goal.returns-in_default
returns-in_default c =
    let self = c.args.self.now in
    let other = c.args.other.now in
    number-decides self.row other.row c.cmp.result self.starts.bytes other.starts.bytes (rw (self.starts.number, other.starts.number) at c.cmp.ensures) c.in_default.not-Equal
