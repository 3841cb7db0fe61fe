use Rattle.std.proofs.Common.{◌≡◌, IsPermutation, map, sym, subst}
use Rattle.std.proofs.lemmas.List.Sorted.{IsPermutation-map}
use Rattle.std.proofs.lemmas.Result.{IfOk-weaker}
use Rattle.plan_extract.specs.declared.ranking.Ranked.{Ranked}
use Rattle.plan_extract.proofs.ranking.by_rank.Goals as goal

pub returns : goal.returns
returns c =
    let moved : IsPermutation (map (λ (one : Ranked). one.exposure) c.in_ok-ranked.ranked.items) (map (λ (one : Ranked). one.exposure) c.as_slice.result.now) =
    IsPermutation-map (λ (one : Ranked). one.exposure) c.in_ok-ranked.ranked.items c.as_slice.result.now (subst (IsPermutation c.in_ok-ranked.ranked.items) (sym c.as_slice.ensures.value) c.sort_unstable_by_key.ensures.permutation) in
    IfOk-weaker c.exposures_alone.result (λ list. list.items ≡ map (λ (one : Ranked). one.exposure) c.as_slice.result.now) (λ list. IsPermutation c.args.exposures.now list.items)
    (λ list is. subst (λ items. IsPermutation c.args.exposures.now items) (sym is)
    (subst (λ items. IsPermutation items (map (λ (one : Ranked). one.exposure) c.as_slice.result.now)) c.in_ok-ranked.ensures moved)) c.exposures_alone.ensures
