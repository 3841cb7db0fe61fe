use Rattle.std.proofs.Common.{sym, subst}
use Rattle.std.specs.Prelude.{IfOk}
use Rattle.std.proofs.lemmas.Result.{IfOk-weaker}
use Rattle.plan_course.specs.Turns.{asks_of}
use Rattle.plan_course.specs.declared.turns.Next.{Next}
use Rattle.plan_batches.specs.Members.{HasNoted}
use Rattle.plan_batches.proofs.Noting.{noted_all}
use Rattle.plan_batches.proofs.member.note_next.Goals as goal

pub returns-in-Wants : goal.returns-in-Wants
returns-in-Wants c =
    subst (λ (x : Next). IfOk c.note_all.result (λ numbers. HasNoted c.args.schema.now (asks_of x) c.args.book.now c.note_all.new.self numbers.items)) (sym c.in-Wants.is)
    (IfOk-weaker c.note_all.result _ _
    (λ numbers h. noted_all c.args.schema.now c.line_of-line.result.now c.in-Wants.pending.method.rel c.in-Wants.pending.method.inputs c.in-Wants.pending.wanted.requests
    c.args.book.now c.note_all.new.self numbers.items c.line_of-line.ensures h) c.note_all.ensures)
