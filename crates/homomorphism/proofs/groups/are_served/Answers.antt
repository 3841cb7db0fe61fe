use Rattle.std.proofs.Common.{◌≡◌, ◌∙◌, [], ℕ, List, Contains, subst, sym, slice_index_or, ⊎_elim}
use Rattle.homomorphism.specs.Walks.{IsServed}
use Rattle.homomorphism.specs.Widening.{taken}
use Rattle.homomorphism.proofs.Runs.{below_or_last}
use Rattle.homomorphism.proofs.Touching.{default}
use Rattle.homomorphism.proofs.groups.are_served.Goals as goal

pub is_served-requires : goal.is_served-requires
is_served-requires c =
    let i = c.loop-place.place in
    let run : c.as_slice.result.now ≡ slice_index_or c.args.runs.now i [] = c.as_slice.ensures ∙ c.index-runs-place.is ∙ default c.args.runs.now i c.index-runs-place.result [] c.loop-place-test.true in
    λ n h. c.requires i n c.loop-place-test.true (subst (λ z. Contains z n) run h)

pub loop-place-preserved : goal.loop-place-preserved
loop-place-preserved c = λ i l.
    let k = c.loop-place.place in
    let run : c.as_slice.result.now ≡ slice_index_or c.args.runs.now k [] = c.as_slice.ensures ∙ c.index-runs-place.is ∙ default c.args.runs.now k c.index-runs-place.result [] c.loop-place-test.true in
    ⊎_elim (λ less. c.loop-place.invariant i less)
    (λ last. subst (λ (n : ℕ). IsServed c.args.owners.now c.args.whole.now c.args.groups.now (taken c.args.atoms.now (slice_index_or c.args.runs.now n []))) (sym last)
    (subst (λ (r : List ℕ). IsServed c.args.owners.now c.args.whole.now c.args.groups.now (taken c.args.atoms.now r)) run (c.is_served.ensures c.if-not-is_served.false)))
    (below_or_last i k l)
