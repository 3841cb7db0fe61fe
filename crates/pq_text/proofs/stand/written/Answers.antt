use Rattle.pq_text.proofs.Standing.{span_ends}
use Rattle.pq_text.proofs.stand.written.Goals as goal

pub range-requires-clause-end_boundary : goal.range-requires-clause-end_boundary
range-requires-clause-end_boundary c = span_ends c.args.text.now c.args.token c.utf8.text c.requires
