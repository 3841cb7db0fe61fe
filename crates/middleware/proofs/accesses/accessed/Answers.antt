use Rattle.std.proofs.Common.{arith}
use Rattle.std.proofs.lemmas.List.Filters.{dedup_is}
use Rattle.std.proofs.lemmas.List.Kept.{Contains-dedup_nat, Contains-from_dedup}
use Rattle.std.proofs.lemmas.List.Sorted.{Contains-permutation, IsPermutation-sym}
use Rattle.std.proofs.lemmas.Map.Keys.{IsStrictlyIncreasing-dedup}
use Rattle.middleware.proofs.Accessing.{branches_none, branches_more, plan_accesses}
use Rattle.middleware.proofs.accesses.accessed.Goals as goal

pub loop-branch-init : goal.loop-branch-init
loop-branch-init c = λ rel. branches_none c.args.schema.now c.new-rels.result.items c.new-rels.ensures.items rel

pub loop-branch-preserved : goal.loop-branch-preserved
loop-branch-preserved c = λ rel.
    branches_more c.args.schema.now c.as_slice-branch-items.result.now c.loop-branch.branch-index c.branch-item.result (omega arith) c.branch-item.is c.as_slice.result.now c.as_slice.ensures c.loop-branch.rels.items c.add_relations.new.into.items
    c.loop-branch.invariant c.in_ok-add_relations.ensures rel

pub returns-clause-ascends : goal.returns-clause-ascends
returns-clause-ascends c = rw (dedup_is _ _ _ c.dedup.ensures.filtered) (IsStrictlyIncreasing-dedup _ c.sort_unstable.ensures.sorted)

pub returns-clause-exactly : goal.returns-clause-exactly
returns-clause-exactly c =
    let is = dedup_is _ _ _ c.dedup.ensures.filtered in
    let moved = c.sort_unstable.ensures.permutation in
    plan_accesses c.args.schema.now c.args.plan.now c.as_slice-branch-items.result.now c.as_slice-branch-items.ensures c.loop-branch.branch-index (omega arith) c.loop-branch.rels.items c.dedup.new.self.items
    (λ x. (
      (λ h. Contains-permutation _ _ x (IsPermutation-sym _ _ moved) (Contains-from_dedup _ _ x (rw is at h))),
      (λ h. rw is (Contains-dedup_nat _ x (Contains-permutation _ _ x moved h))),
    ))
    c.loop-branch.invariant
