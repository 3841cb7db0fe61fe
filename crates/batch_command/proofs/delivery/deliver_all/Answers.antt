-- The ways of a delivery, by where it stopped.
use Rattle.std.proofs.Common.{refl, sym, ap, ◌∙◌, ◌≡◌, length, arith}
use Rattle.command_io.specs.Executing.Delivers.{no_rows}
use Rattle.command_io.proofs.Delivering.{reported}
use Rattle.batch_command.proofs.Texts.{zip_length}
use Rattle.batch_command.proofs.delivery.deliver_all.Goals as goal

pub write_runs-requires-clause-same : goal.write_runs-requires-clause-same
write_runs-requires-clause-same g c =
    c.requires.same ∙ zip_length _ c.args.plans.now c.in-Ok.runs.items c.in-Ok.ensures.executes.runs
    ∙ ap length (sym c.as_slice.ensures.value)

pub write_runs-requires-clause-few : goal.write_runs-requires-clause-few
write_runs-requires-clause-few g c =
    let count : length c.args.plans.now ≡ length c.as_slice.result.now =
    zip_length _ c.args.plans.now c.in-Ok.runs.items c.in-Ok.ensures.executes.runs ∙ ap length (sym c.as_slice.ensures.value) in
    let few = c.requires.few in
    omega (arith, count, few)

pub returns-in-Ok-clause-delivers : goal.returns-in-Ok-clause-delivers
returns-in-Ok-clause-delivers g c =
    reported _ _ _ _ _ c.in-Ok.runs.items c.in-Ok.ensures.executes c.write_runs.result
    (rw c.as_slice.ensures.value at (c.write_runs.ensures.delivers c.args.plans.now))

pub returns-in-Err-clause-delivers : goal.returns-in-Err-clause-delivers
returns-in-Err-clause-delivers g c = no_rows c.stop_of_batch.result (c.in-Err.why, c.in-Err.ensures.executes, c.stop_of_batch.ensures) refl
