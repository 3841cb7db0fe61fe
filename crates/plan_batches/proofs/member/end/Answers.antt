use Rattle.std.proofs.Common.{◌∙◌, arith}
use Rattle.std.specs.List.Sorted.{IsStrictlyIncreasing}
use Rattle.std.proofs.lemmas.List.Filters.{dedup_is}
use Rattle.std.proofs.lemmas.List.Kept.{Contains-dedup_nat, Contains-from_dedup}
use Rattle.std.proofs.lemmas.List.Sorted.{Contains-permutation, IsPermutation-sym}
use Rattle.std.proofs.lemmas.Map.Keys.{IsStrictlyIncreasing-dedup}
use Rattle.plan_batches.proofs.Listing.{distinct_numbers, few_numbers}
use Rattle.plan_batches.proofs.member.end.Goals as goal

pub overflow_cast-result : goal.overflow_cast-result
overflow_cast-result c =
    let is = dedup_is _ _ _ c.dedup.ensures.filtered in
    let moved = c.sort_unstable.ensures.permutation in
    let up : IsStrictlyIncreasing c.dedup.new.self.items = rw is (IsStrictlyIncreasing-dedup _ c.sort_unstable.ensures.sorted) in
    let few = few_numbers c.dedup.new.self.items 1000000 up
    (λ x h. c.requires x (Contains-permutation _ _ x (IsPermutation-sym _ _ moved) (Contains-from_dedup _ _ x (rw is at h)))) in
    let long = c.len.ensures ∙ c.dedup.new.self.ok.0 in
    omega (arith, few, long)

pub returns : goal.returns
returns c =
    let is = dedup_is _ _ _ c.dedup.ensures.filtered in
    let moved = c.sort_unstable.ensures.permutation in
    let up : IsStrictlyIncreasing c.dedup.new.self.items = rw is (IsStrictlyIncreasing-dedup _ c.sort_unstable.ensures.sorted) in
    record {
      ascends = c.in_ok-rows.ensures.ascends;
      all = c.in_ok-rows.ensures.all;
      distinct = c.dedup.new.self.items;
      each_once = distinct_numbers c.dedup.new.self.items up;
      same = λ x. (
        (λ h. Contains-permutation _ _ x (IsPermutation-sym _ _ moved) (Contains-from_dedup _ _ x (rw is at h))),
        (λ h. rw is (Contains-dedup_nat _ x (Contains-permutation _ _ x moved h))),
      );
      made = c.len.ensures ∙ c.dedup.new.self.ok.0;
    }
