-- The list is that of the rules so far; sorted and without doubles it has the same members.
use Rattle.std.proofs.Common.{arith}
use Rattle.std.proofs.lemmas.List.Filters.{dedup_is}
use Rattle.std.proofs.lemmas.List.Kept.{Contains-dedup_nat, Contains-from_dedup}
use Rattle.std.proofs.lemmas.List.Sorted.{Contains-permutation, IsPermutation-sym}
use Rattle.std.proofs.lemmas.Map.Keys.{IsStrictlyIncreasing-dedup}
use Rattle.rule_rows.proofs.Naming.{listing_more, listed_exactly}
use Rattle.rule_rows.proofs.relations.rule_relations.Goals as goal

pub loop-rule-preserved : goal.loop-rule-preserved
loop-rule-preserved c =
    listing_more c.as_slice-rule-items.result.now c.loop-rule.rule-index c.rule-item.result (omega arith) c.rule-item.is c.as_slice.result.now c.as_slice-in-loop-rule.result.now c.as_slice.ensures c.as_slice-in-loop-rule.ensures
    c.loop-rule.rels.items c.add_relations.new.rels.items c.add_relations-in-loop-rule.new.rels.items c.loop-rule.invariant c.in_ok-add_relations.ensures c.in_ok-add_relations-2.ensures

pub returns : goal.returns
returns c =
    let is = dedup_is _ _ _ c.dedup.ensures.filtered in
    let moved = c.sort_unstable.ensures.permutation in
    record {
      ascends = rw is (IsStrictlyIncreasing-dedup _ c.sort_unstable.ensures.sorted);
      exactly = λ rel. listed_exactly c.args.schema.now rel c.as_slice-rule-items.result.now c.as_slice-rule-items.ensures c.loop-rule.rule-index (omega arith) c.loop-rule.rels.items c.dedup.new.self.items c.loop-rule.invariant
          (λ h. Contains-permutation _ _ rel (IsPermutation-sym _ _ moved) (Contains-from_dedup _ _ rel (rw is at h)))
          (λ h. rw is (Contains-dedup_nat _ rel (Contains-permutation _ _ rel moved h)));
    }
