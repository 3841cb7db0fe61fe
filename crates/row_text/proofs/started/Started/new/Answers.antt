use Rattle.std.proofs.Common.{subst}
use Rattle.row_text.specs.Starts.{IsStart}
use Rattle.row_text.proofs.started.Started.new.Goals as goal

pub invariant_of-result : goal.invariant_of-result
invariant_of-result c = record {
  starts = subst (IsStart c.start_of-start.result) c.first_value.ensures c.start_of-start.ensures;
}
