-- The statements in front of the loop's place have plans, and one that has none ends the batch.
use Rattle.std.proofs.Common.{sym, subst, ap, ◌∙◌, ◌≡◌, ◌+◌, List, [], ◌∷◌, ◌++◌, length, take, min, arith}
use Rattle.std.proofs.lemmas.List.{length-take, take_all}
use Rattle.std.proofs.lemmas.Result.{err_from_is_err_and}
use Rattle.lists.proofs.Places.{take_indexed}
use Rattle.meaning.specs.declared.types.Statement.{Statement}
use Rattle.meaning.specs.declared.types.Plan.{Plan}
use Rattle.command_io.specs.Writing.{TookAll}
use Rattle.batch_command.specs.Deciding.{AreTold, plans_of}
use Rattle.batch_command.proofs.Texts.{told_start, told_more, told_length, plans_push, line_and_text}
use Rattle.batch_command.proofs.Ending.{halts_at}
use Rattle.batch_command.proofs.deciding.decide_all.Goals as goal

pub loop-statement-init : goal.loop-statement-init
loop-statement-init g c = record {
  told = ([], told_start _ _ _ _, c.new-plans.ensures.items);
  later = omega arith;
}

pub decide_next-requires-clause-fits : goal.decide_next-requires-clause-fits
decide_next-requires-clause-fits g c = c.requires.fit c.statement-item.result
    (c.loop-statement.statement-index, c.loop-statement-test.true, sym c.statement-item.is)

pub decide_next-requires-clause-few : goal.decide_next-requires-clause-few
decide_next-requires-clause-few g c =
    let (told, are, same) = c.loop-statement.invariant.told in
    let i = c.loop-statement.statement-index in
    let count : length c.loop-statement.plans.items ≡ length (take i c.args.statements.now) = ap length same
    ∙ told_length _ _ _ _ _ _ told are in
    let taken : length (take i c.args.statements.now) ≡ min i (length c.args.statements.now) = length-take i c.args.statements.now in
    let below = c.loop-statement-test.true in
    let few = c.requires.few in
    omega (arith, count, taken, below, few)

pub returns-in_err-decide_next-clause-ended : goal.returns-in_err-decide_next-clause-ended
returns-in_err-decide_next-clause-ended g c =
    let (told, are, same) = c.loop-statement.invariant.told in
    let ended = err_from_is_err_and c.from_residual.result c.from_residual.ensures.1 in
    rw (ended.1, ended.2) (halts_at _ _ _ _ _ _ (g.E.Sink.taken c.loop-statement.err) _ _
    (g.E.Sink.faults c.loop-statement.err) _ c.loop-statement.statement-index c.statement-item.result told c.loop-statement.plans.items
    c.in_err-decide_next.field-0.0 c.loop-statement-test.true c.statement-item.is are same c.loop-statement.invariant.later c.decide_next.ensures.later
    c.in_err-decide_next.ensures.ended)

pub returns-in_err-decide_next-clause-later : goal.returns-in_err-decide_next-clause-later
returns-in_err-decide_next-clause-later g c = let before = c.loop-statement.invariant.later in let after = c.decide_next.ensures.later in
    omega (arith, before, after)

pub loop-statement-preserved : goal.loop-statement-preserved
loop-statement-preserved g c =
    let (told, are, same) = c.loop-statement.invariant.told in
    let (its, planned, took, plans) = c.in_ok-decide_next.ensures.planned in
    let i = c.loop-statement.statement-index in
    let took_it : TookAll (g.E.Sink.taken c.loop-statement.err) (g.E.Sink.taken c.decide_next.new.err)
    (line_and_text (length (plans_of told) + 1) its) =
    subst (λ (ps : List Plan). TookAll (g.E.Sink.taken c.loop-statement.err) (g.E.Sink.taken c.decide_next.new.err)
    (line_and_text (length ps + 1) its)) same took in
    record {
      told = (
        told ++ its ∷ [],
        subst (λ (s : List Statement). AreTold c.args.schema.now c.args.limits.firings c.args.limits.search s
            (g.E.Sink.taken c.args.err.now) (g.E.Sink.taken c.decide_next.new.err) (told ++ its ∷ []))
            (sym (take_indexed c.args.statements.now i c.statement-item.result c.loop-statement-test.true c.statement-item.is))
            (told_more c.args.schema.now c.args.limits.firings c.args.limits.search
            (take i c.args.statements.now) c.statement-item.result (g.E.Sink.taken c.args.err.now)
            (g.E.Sink.taken c.loop-statement.err) (g.E.Sink.taken c.decide_next.new.err) told its are planned took_it),
        plans ∙ ap (λ (ps : List Plan). ps ++ its.plan ∷ []) same ∙ sym (plans_push told its),
      );
      later = let before = c.loop-statement.invariant.later in let after = c.decide_next.ensures.later in omega (arith, before, after);
    }

pub returns-clause-planned : goal.returns-clause-planned
returns-clause-planned g c =
    let (told, are, same) = c.loop-statement.invariant.told in (
      told,
      subst (λ (s : List Statement). AreTold c.args.schema.now c.args.limits.firings c.args.limits.search s
          (g.E.Sink.taken c.args.err.now) (g.E.Sink.taken c.loop-statement.err) told)
          (take_all c.loop-statement.statement-index c.args.statements.now c.loop-statement-test.false) are,
      same,
    )

pub returns-clause-later : goal.returns-clause-later
returns-clause-later g c = c.loop-statement.invariant.later
