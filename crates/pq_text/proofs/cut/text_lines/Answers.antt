use Rattle.pq_text.proofs.Lexing.{lines_only}
use Rattle.pq_text.proofs.cut.text_lines.Goals as goal

pub returns-clause-only : goal.returns-clause-only
returns-clause-only c = lines_only c.args.text.now c.all_lines.result c.all_lines.ensures
