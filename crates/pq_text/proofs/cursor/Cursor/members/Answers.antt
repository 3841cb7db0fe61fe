use Rattle.std.proofs.Common.{[], arith, length}
use Rattle.std.proofs.lemmas.Result.{err_from_is_err_and}
use Rattle.pq_text.specs.Lexemes.{members}
use Rattle.pq_text.proofs.Members.{goes_on, is_last, fails, runs_out}
use Rattle.pq_text.proofs.cursor.Cursor.members.Goals as goal

pub returns-in_err-take : goal.returns-in_err-take
returns-in_err-take g c =
    let form = g.F.Form.at c.args.form.now in
    let p = err_from_is_err_and c.from_residual.result c.from_residual.ensures.1 in
    rw (p.1, p.2) (fails c.in_err-take.field-0.0 form (length c.args.self.now) c.loop.counter c.loop.list c.loop.self
    c.take.new.cursor c.take.new.cursor (members form (length c.args.self.now) [] c.args.self.now) (omega arith) c.in_err-take.ensures c.loop.invariant)

pub returns-then-not-accept : goal.returns-then-not-accept
returns-then-not-accept g c =
    rw (c.in_ok-push.ensures.ok, c.accept.ensures.stays c.if-not-accept.true)
    (is_last (g.F.Form.at c.args.form.now) (length c.args.self.now) c.loop.counter c.loop.list c.loop.self c.take.new.cursor
    c.in_ok-take.field-0 _ (omega arith) c.in_ok-take.ensures (c.accept.ensures.other c.if-not-accept.true) c.loop.invariant)

pub loop-preserved : goal.loop-preserved
loop-preserved g c =
    rw c.in_ok-push.ensures.ok
    (goes_on (g.F.Form.at c.args.form.now) (length c.args.self.now) c.loop.counter c.loop.list c.loop.self c.take.new.cursor c.accept.new.self
    c.in_ok-take.field-0 _ (omega arith) c.in_ok-take.ensures (c.accept.ensures.taken c.if-not-accept.false) c.loop.invariant)

pub returns : goal.returns
returns g c =
    runs_out (g.F.Form.at c.args.form.now) (length c.args.self.now) c.loop.counter c.loop.list c.loop.self _ (omega arith) c.loop.invariant
