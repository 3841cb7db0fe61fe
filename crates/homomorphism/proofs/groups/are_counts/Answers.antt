use Rattle.std.proofs.Common.{Contains, sym, ◌∙◌, subst, ⊎_elim, take}
use Rattle.std.proofs.lemmas.List.{take_all}
use Rattle.std.proofs.lemmas.List.Elements.{Contains-push_cases}
use Rattle.lists.proofs.Places.{take_indexed}
use Rattle.homomorphism.specs.Walks.{AreCounts}
use Rattle.homomorphism.proofs.groups.are_counts.Goals as goal

pub loop-counts-preserved : goal.loop-counts-preserved
loop-counts-preserved c = λ counts h. ⊎_elim (λ before. c.loop-counts.invariant counts before)
    (λ same. subst (AreCounts c.args.whole.now) (c.as_slice.ensures ∙ same) (c.have_some.ensures c.if-not-have_some.false))
    (Contains-push_cases (take c.loop-counts.counts-index c.args.groups.now) c.counts-item.result counts (subst (λ z. Contains z counts) (take_indexed c.args.groups.now c.loop-counts.counts-index c.counts-item.result c.loop-counts-test.true c.counts-item.is) h))

pub returns : goal.returns
returns c = λ e counts h. c.loop-counts.invariant counts (subst (λ z. Contains z counts) (sym (take_all c.loop-counts.counts-index c.args.groups.now c.loop-counts-test.false)) h)
