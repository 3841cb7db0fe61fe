use Rattle.std.proofs.Common.{◌≡◌, arith, sym, subst, length, List, ◌++◌, ◌∷◌, []}
use Rattle.std.specs.Vec.Iter.{into_iter_items}
use Rattle.std.proofs.lemmas.Grind.{common_steps}
use Rattle.lists.proofs.Members.{contains_got}
use Rattle.middleware.specs.declared.fault.Run.{Run}
use Rattle.plan_batches.specs.Each.{Both}
use Rattle.plan_batches.specs.Members.{Ends}
use Rattle.plan_batches.specs.declared.member.Member.{Member}
use Rattle.plan_batches.proofs.Pairing.{at_seam, both_push, parts_on}
use Rattle.plan_batches.proofs.rounds.end_all.Goals as goal

pub end-requires : goal.end-requires
end-requires c = λ number h.
    c.requires c.in-Some.member number
    (contains_got c.args.members.items (length c.loop-member.yielded) c.in-Some.member
    (at_seam c.loop-member.yielded (into_iter_items c.loop-member.member-iterator) c.args.members.items c.loop-member.invariant.parts
    c.in-Some.member (into_iter_items c.next.new.self) c.in-Some.ensures.steps.0)) h

pub loop-member-preserved : goal.loop-member-preserved
loop-member-preserved c = record {
  parts = parts_on c.loop-member.yielded (into_iter_items c.loop-member.member-iterator) c.args.members.items c.loop-member.invariant.parts
      c.in-Some.member (into_iter_items c.next.new.self) c.in-Some.ensures.steps.0;
  ends = subst (λ (l : List Run). Both Ends (c.loop-member.yielded ++ c.in-Some.member ∷ []) l) (sym c.in_ok-push.ensures.items)
      (both_push Ends c.loop-member.yielded c.loop-member.runs.items c.in-Some.member c.in_ok-end.field-0 c.loop-member.invariant.ends c.in_ok-end.ensures);
}

pub returns : goal.returns
returns c =
    let all : c.loop-member.yielded ≡ c.args.members.items = grind (arith, common_steps) in
    subst (λ (l : List Member). Both Ends l c.loop-member.runs.items)
    all
    c.loop-member.invariant.ends
