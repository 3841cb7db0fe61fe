-- The statements are decided no further than one of them, or their plans are executed together.
use Rattle.std.proofs.Common.{refl, sym, subst, ap, ◌∙◌, ◌≡◌, length, List, arith}
use Rattle.std.specs.Prelude.{Contains}
use Rattle.meaning.specs.declared.types.Plan.{Plan}
use Rattle.source_trait.proofs.LaneSteps.{LanesStay-refl}
use Rattle.batch_command.specs.Ends.StatementsEnd.{halted, stopped, done}
use Rattle.batch_command.proofs.Texts.{told_length}
use Rattle.batch_command.proofs.Results.{lawful_each, short_each}
use Rattle.batch_command.proofs.batch.answer_all.Goals as goal

pub returns-in-Err-clause-ends : goal.returns-in-Err-clause-ends
returns-in-Err-clause-ends g c = rw (← c.outputs.view_is) (halted c.in-Err.end c.in-Err.ensures.ended refl refl)

pub returns-in-Err-clause-lanes : goal.returns-in-Err-clause-lanes
returns-in-Err-clause-lanes g c = LanesStay-refl g.S.Source.seen c.args.lanes.now

pub deliver_all-requires-clause-lawful : goal.deliver_all-requires-clause-lawful
deliver_all-requires-clause-lawful g c κs within =
    let (told, are, same) = c.in-Ok.ensures.planned in
    λ plan among. lawful_each c.args.schema.now c.args.statements.now c.args.limits.firings c.args.limits.search told are.planned plan
    (subst (λ (ps : List Plan). Contains ps plan) (c.as_slice.ensures.value ∙ same) among)

pub deliver_all-requires-clause-short : goal.deliver_all-requires-clause-short
deliver_all-requires-clause-short g c κs within =
    let (told, are, same) = c.in-Ok.ensures.planned in
    λ plan among. short_each c.args.schema.now c.args.statements.now c.args.limits.firings c.args.limits.search told are.planned plan
    (subst (λ (ps : List Plan). Contains ps plan) (c.as_slice.ensures.value ∙ same) among)

pub deliver_all-requires-clause-some : goal.deliver_all-requires-clause-some
deliver_all-requires-clause-some g c κs within = λ statement among.
    (c.requires.fit statement among).some

pub deliver_all-requires-clause-same : goal.deliver_all-requires-clause-same
deliver_all-requires-clause-same g c κs within =
    let (told, are, same) = c.in-Ok.ensures.planned in
    sym (ap length (c.as_slice.ensures.value ∙ same) ∙ told_length _ _ _ c.args.statements.now _ _ told are)

pub deliver_all-requires-clause-few : goal.deliver_all-requires-clause-few
deliver_all-requires-clause-few g c κs within =
    let (told, are, same) = c.in-Ok.ensures.planned in
    let count : length c.as_slice.result.now ≡ length c.args.statements.now =
    ap length (c.as_slice.ensures.value ∙ same) ∙ told_length _ _ _ c.args.statements.now _ _ told are in
    let few = c.requires.few in
    omega (arith, count, few)

pub returns-in-Ok-deliver_all-clause-ends : goal.returns-in-Ok-deliver_all-clause-ends
returns-in-Ok-deliver_all-clause-ends g c =
    let (told, are, same) = c.in-Ok.ensures.planned in
    rw (← c.outputs.view_is) (done told are (rw (c.as_slice.ensures.value, same) at c.in-Ok-deliver_all.ensures.delivers))

pub returns-clause-ends : goal.returns-clause-ends
returns-clause-ends g c =
    let (told, are, same) = c.in-Ok.ensures.planned in
    rw (← c.outputs.view_is) (stopped told (g.E.Sink.taken c.decide_all.new.err)
    (record { faults = g.E.Sink.faults c.decide_all.new.err; begun = c.decide_all.ensures.later; ended = c.tell.ensures.later })
    c.in-Err-deliver_all.stop c.tell.result are (rw (c.as_slice.ensures.value, same) at c.in-Err-deliver_all.ensures.delivers) (record {
      given = c.in-Err-deliver_all.stop;
      cause = refl;
      tells = rw c.as_slice-in-Err-deliver_all.ensures at c.tell.ensures.tells;
    }))
