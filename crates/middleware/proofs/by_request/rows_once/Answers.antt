use Rattle.std.proofs.Common.{[], arith}
use Rattle.std.proofs.lemmas.List.{take_all}
use Rattle.middleware.proofs.Steps.{added_next, added_none}
use Rattle.middleware.proofs.by_request.rows_once.Goals as goal

pub loop-member-init : goal.loop-member-init
loop-member-init c = rw c.requires added_none

pub loop-member-preserved : goal.loop-member-preserved
loop-member-preserved c =
    added_next (λ m. m.row) c.args.members.now c.loop-member.member-index c.member-item.result c.member-item.result [] c.loop-member.list c.in_ok-list.list (omega arith)
    c.member-item.is c.loop-member.invariant c.in_ok-list.ensures

pub returns : goal.returns
returns c = rw (take_all c.loop-member.member-index c.args.members.now (omega arith)) at c.loop-member.invariant
