use Rattle.std.proofs.Common.{sym}
use Rattle.std.proofs.lemmas.Result.{IfOk-weaker}
use Rattle.access_schema.specs.Meaning.{meaning_of}
use Rattle.access_schema.proofs.Keeping.{well_formed}
use Rattle.plan_course.proofs.Growing.{mid_knows, mid_stands, pending_below, pending_in, pending_rest, taken_at}
use Rattle.plan_course.proofs.turns.take.Goals as goal

pub grow-requires-clause-below : goal.grow-requires-clause-below
grow-requires-clause-below c =
    let (schema, course, p) = c.requires.asked in
    pending_below schema c.in-Some.branch.now course c.args.pending
    (pending_in schema c.args.plan.now course c.args.pending p c.in-Some.branch.now (sym c.in-Some.ensures))

pub grow-requires-clause-rest : goal.grow-requires-clause-rest
grow-requires-clause-rest c =
    let (schema, course, p) = c.requires.asked in
    pending_rest schema c.in-Some.branch.now course c.args.pending
    (pending_in schema c.args.plan.now course c.args.pending p c.in-Some.branch.now (sym c.in-Some.ensures))

pub settle-requires-clause-stands : goal.settle-requires-clause-stands
settle-requires-clause-stands c =
    let (schema, course, p) = c.requires.asked in
    mid_stands schema c.args.plan.now course c.args.pending p c.in-Some.branch.now (sym c.in-Some.ensures) c.args.answers
    c.in_ok-next-in-Some.next c.in_ok-next-in-Some.ensures

pub returns-clause-at : goal.returns-clause-at
returns-clause-at c =
    IfOk-weaker c.settle.result _ _
    (λ next s schema course n p is. taken_at schema c.args.plan.now course c.args.pending p c.in-Some.branch.now (sym c.in-Some.ensures)
    c.args.answers
    c.in_ok-next-in-Some.next c.in_ok-next-in-Some.ensures next n s is)
    c.settle.ensures.settles

pub returns-clause-knows : goal.returns-clause-knows
returns-clause-knows c =
    IfOk-weaker c.settle.result _ _
    (λ next knows schema course facts p ready k from. knows (meaning_of schema) facts (well_formed schema) ready
    (mid_knows schema c.args.plan.now course c.args.pending p c.in-Some.branch.now (sym c.in-Some.ensures) c.args.answers
    c.in_ok-next-in-Some.next c.in_ok-next-in-Some.ensures facts from k))
    c.settle.ensures.knows
