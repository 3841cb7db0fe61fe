use Rattle.pq_text.proofs.Lexing.{tokens_only}
use Rattle.pq_text.proofs.scan.tokens.Goals as goal

pub returns-clause-only : goal.returns-clause-only
returns-clause-only c = tokens_only c.args.style c.args.text.now c.all_tokens.result c.all_tokens.ensures.found c.all_tokens.ensures.fault
