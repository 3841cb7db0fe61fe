use Rattle.pq_text.proofs.Pieces.{printed_lines}
use Rattle.pq_text.proofs.laws.printed_lines_are_read.Goals as goal

pub returns : goal.returns
returns c = printed_lines
