-- Both lists, sorted and without doubles.
use Rattle.std.proofs.lemmas.List.Filters.{dedup_is}
use Rattle.std.proofs.lemmas.List.Kept.{Contains-dedup_nat, Contains-from_dedup}
use Rattle.std.proofs.lemmas.List.Sorted.{Contains-permutation, IsPermutation-sym}
use Rattle.std.proofs.lemmas.Map.Keys.{IsStrictlyIncreasing-dedup}
use Rattle.rule_rows.proofs.Naming.{with_others}
use Rattle.rule_rows.proofs.relations.with_accessed.Goals as goal

pub returns-clause-ascends : goal.returns-clause-ascends
returns-clause-ascends c = rw (dedup_is _ _ _ c.dedup.ensures.filtered) (IsStrictlyIncreasing-dedup _ c.sort_unstable.ensures.sorted)

pub returns-clause-exactly : goal.returns-clause-exactly
returns-clause-exactly c =
    let is = dedup_is _ _ _ c.dedup.ensures.filtered in
    let moved = c.sort_unstable.ensures.permutation in
    λ rel. with_others c.args.schema.now rel c.in_ok-rels.rels.items c.args.accessed.now _ c.dedup.new.self.items (c.in_ok-rels.ensures.exactly rel)
    c.in_ok-extend_from_slice.ensures.items
    (λ h. Contains-permutation _ _ rel (IsPermutation-sym _ _ moved) (Contains-from_dedup _ _ rel (rw is at h)))
    (λ h. rw is (Contains-dedup_nat _ rel (Contains-permutation _ _ rel moved h)))
