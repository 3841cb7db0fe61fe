use Rattle.command_words.proofs.Splitting.{begins_positional}
use Rattle.command_words.proofs.item.next_item.Goals as goal

pub returns-then-first-ne45-clause-some : goal.returns-then-first-ne45-clause-some
returns-then-first-ne45-clause-some c =
    begins_positional c.args.name c.args.words.now c.word-item.result c.as_bytes.result.now c.in-len1-up.len_at_least c.word-item.is c.as_bytes.ensures c.in-len1-up-as_bytes.len_at_least c.if-first-ne45.true
