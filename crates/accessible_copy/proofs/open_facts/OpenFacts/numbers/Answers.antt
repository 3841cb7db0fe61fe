use Rattle.std.proofs.Common.{◌≡◌, ◌++◌, drop, sym, ap, ◌∙◌, subst, arith}
use Rattle.std.specs.Prelude.{Contains}
use Rattle.std.proofs.lemmas.List.{append-nil, drop_all}
use Rattle.std.proofs.lemmas.List.Filters.{dedup_is}
use Rattle.std.proofs.lemmas.List.Kept.{Contains-dedup_nat, AllPairs-from_increasing}
use Rattle.std.proofs.lemmas.List.Sorted.{Contains-permutation}
use Rattle.std.proofs.lemmas.Map.Keys.{IsStrictlyIncreasing-dedup}
use Rattle.accessible_copy.proofs.OpenListed.{ascending_distinct}
use Rattle.accessible_copy.proofs.open_facts.OpenFacts.numbers.Goals as goal

pub returns-clause-once : goal.returns-clause-once
returns-clause-once c =
    let is = dedup_is _ _ _ c.dedup.ensures.filtered in
    rw is (ascending_distinct _ (AllPairs-from_increasing _ (IsStrictlyIncreasing-dedup _ c.sort_unstable.ensures.sorted)))

pub returns-clause-all : goal.returns-clause-all
returns-clause-all c = λ n among.
    let is = dedup_is _ _ _ c.dedup.ensures.filtered in
    let list = c.args.self.now.listed.items in
    let none = drop_all c.loop-place.place list (let t = c.loop-place-test.false in omega arith) in
    let whole : c.loop-place.numbers.items ≡ drop c.args.self.now.passed list =
    sym (append-nil c.loop-place.numbers.items) ∙ ap (λ l. c.loop-place.numbers.items ++ l) (sym none) ∙ c.loop-place.invariant in
    rw is (Contains-dedup_nat _ n (Contains-permutation _ _ n c.sort_unstable.ensures.permutation (subst (λ l. Contains l n) (sym whole) among)))
