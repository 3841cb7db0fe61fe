use Rattle.command_words.specs.Splits.{item_of}
use Rattle.command_words.proofs.Giving.{none_at, sofar_more, sofar_all, sofar_refused}
use Rattle.command_words.proofs.given.read_arguments.Goals as goal

pub returns-in_err-arguments-clause-none : goal.returns-in_err-arguments-clause-none
returns-in_err-arguments-clause-none c =
    none_at c.from_residual-in_err-arguments.result c.from_residual-in_err-arguments.ensures
    (λ items splits may. sofar_refused c.args.name c.args.words.now c.loop-left.left.now c.in_ok-item.after.now (item_of c.in_ok-item.item) c.loop-left.arguments items c.in_ok-item.ensures.some c.in_err-arguments.ensures.none c.loop-left.invariant splits may)

pub loop-left-preserved : goal.loop-left-preserved
loop-left-preserved c =
    sofar_more c.args.name c.args.words.now c.loop-left.left.now c.in_ok-item.after.now (item_of c.in_ok-item.item) c.loop-left.arguments c.in_ok-arguments.arguments c.in_ok-item.ensures.some c.in_ok-arguments.ensures.some c.loop-left.invariant

pub returns-clause-some : goal.returns-clause-some
returns-clause-some c = sofar_all c.args.name c.args.words.now c.loop-left.left.now c.loop-left.arguments c.loop-left-test.ensures c.loop-left.invariant
