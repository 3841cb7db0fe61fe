-- One run more.
use Rattle.std.proofs.Common.{sym, arith}
use Rattle.batch_command.proofs.Parts.{sofar_more}
use Rattle.batch_command.proofs.delivery.runs_text.Goals as goal

pub push_run-requires : goal.push_run-requires
push_run-requires c = c.requires.some c.index-statements-place.result
    (c.loop-place.place, omega (arith, c.requires.same, c.loop-place-test.true), sym c.index-statements-place.is)

pub loop-place-preserved : goal.loop-place-preserved
loop-place-preserved c =
    let (part, given, text) = c.in_ok-push_run.ensures in
    let same = c.requires.same in
    let below = c.loop-place-test.true in
    sofar_more c.args.statements.now c.args.runs.now c.loop-place.place c.loop-place.text.items c.push_run.new.text.items
    c.index-statements-place.result c.index-runs-place.result part
    (omega (arith, same, below)) c.index-statements-place.is below c.index-runs-place.is
    given text c.loop-place.invariant
