use Rattle.std.proofs.Common.{◌∙◌, sym}
use Rattle.source_trait.specs.RequestLog.{shapes_of}
use Rattle.source_trait.proofs.RequestLogs.{length-requests_in}
use Rattle.source_trait.proofs.request_log.RequestLog.len.Goals as goal

pub returns : goal.returns
returns c = rw (← c.self.view_is) (sym c.self.invariant.counted ∙ sym (length-requests_in (shapes_of c.self.inside.runs.items) c.self.inside.values))
