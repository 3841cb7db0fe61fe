use Rattle.plan_batches.proofs.Taking.{has_line}
use Rattle.plan_batches.proofs.member.go_on.Goals as goal

pub note_next-requires-clause-line : goal.note_next-requires-clause-line
note_next-requires-clause-line c = has_line c.args.schema.now c.args.plan.now c.args.member.course c.in_ok-next.next c.in_ok-next.ensures.goes c.requires.lines
