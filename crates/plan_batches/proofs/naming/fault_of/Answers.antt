use Rattle.std.proofs.Common.{◌+◌, List, ◌∙◌, ap, sym, subst}
use Rattle.middleware.specs.declared.lane_round.AskFault.{AskFault}
use Rattle.request_rounds.specs.declared.rounds.Halt.{Halt}
use Rattle.request_rounds.specs.declared.rounds.Halt.TheVariants as halt
use Rattle.plan_batches.specs.Naming.{CanNameHalt, WantsNumber}
use Rattle.plan_batches.specs.declared.member.Going.{Going}
use Rattle.plan_batches.specs.declared.round.Noted.{Noted}
use Rattle.plan_batches.specs.declared.round.NotedFault.{NotedFault}
use Rattle.plan_batches.specs.declared.round.NotedFault.TheVariants as noted_fault
use Rattle.plan_batches.proofs.naming.fault_of.Goals as goal

pub call_failed-requires-clause-wanted : goal.call_failed-requires-clause-wanted
call_failed-requires-clause-wanted c =
    let can = subst (λ (h : Halt Noted NotedFault). CanNameHalt h)
    (c.in-Refused.is ∙ ap (λ (w : NotedFault). halt.Refused c.in-Refused.what w)
    (c.in-NotAsked.is ∙ ap (λ (f : AskFault). noted_fault.NotAsked f) c.in-CallFailed.is)) c.requires in
    subst (λ (l : List Going). WantsNumber l (c.in-Refused.what.made + c.in-CallFailed.request))
    (sym c.as_slice.ensures.value) can.0.wanted

pub over_calls-requires-clause-wanted : goal.over_calls-requires-clause-wanted
over_calls-requires-clause-wanted c =
    let can = subst (λ (h : Halt Noted NotedFault). CanNameHalt h) c.in-Over.is c.requires in
    subst (λ (l : List Going). WantsNumber l c.in-Over.made) (sym c.as_slice-in-Over.ensures.value) can.wanted
