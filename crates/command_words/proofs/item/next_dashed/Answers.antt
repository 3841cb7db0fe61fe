use Rattle.command_words.proofs.Splitting.{begins_flag}
use Rattle.command_words.proofs.item.next_dashed.Goals as goal

pub returns-then-takes_flag-clause-some : goal.returns-then-takes_flag-clause-some
returns-then-takes_flag-clause-some c =
    begins_flag c.args.name c.in-Some.flag c.args.dashed.now c.args.rest.now c.in-Some.ensures c.if-takes_flag.ensures
