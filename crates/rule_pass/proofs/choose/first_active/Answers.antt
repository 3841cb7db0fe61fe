use Rattle.std.proofs.Common.{◌≡◌, subst, slice_index_or, slice_get, Some}
use Rattle.std.proofs.lemmas.List.{take_all}
use Rattle.meaning.specs.declared.types.Val.TheVariants.{Const}
use Rattle.meaning.specs.Matching.{MeetsRule, GroundsOf}
use Rattle.homomorphism.specs.Rules.{IsUnmetMatch}
use Rattle.rule_pass.specs.Passing.{AreMet}
use Rattle.rule_pass.proofs.Ordered.{order_below}
use Rattle.homomorphism.proofs.AtomByAtom.{is_among}
use Rattle.rule_pass.proofs.OnePass.{numbered_at, met_more, met_all, unmet_first}
use Rattle.rule_pass.proofs.choose.first_active.Goals as goal

pub bounds-as_slice-number : goal.bounds-as_slice-number
bounds-as_slice-number c = rw c.as_slice.ensures (order_below c.args.rules.now c.args.order.now c.loop-place.place c.requires.ordered c.loop-place-test.true)

pub first_unmet-requires : goal.first_unmet-requires
first_unmet-requires c = c.requires.orderly.numbered c.index-as_slice-number.result (is_among c.args.rules.now (slice_index_or c.args.order.now c.loop-place.place 0) c.index-as_slice-number.result (order_below c.args.rules.now c.args.order.now c.loop-place.place c.requires.ordered c.loop-place-test.true) (rw c.as_slice.ensures at c.index-as_slice-number.is))

pub returns-in-Some-clause-some : goal.returns-in-Some-clause-some
returns-in-Some-clause-some c =
    let numbered : slice_get c.args.rules.now (slice_index_or c.args.order.now c.loop-place.place 0) ≡ Some c.index-as_slice-number.result = numbered_at c.args.rules.now (slice_index_or c.args.order.now c.loop-place.place 0) c.index-as_slice-number.result (order_below c.args.rules.now c.args.order.now c.loop-place.place c.requires.ordered c.loop-place-test.true) (rw c.as_slice.ensures at c.index-as_slice-number.is) in
    let u : IsUnmetMatch c.args.state.now.facts c.index-as_slice-number.result c.in-Some.found.vals = rw c.store.ensures at (rw c.in-Some.is at c.in_ok-found.ensures.some) in
    (c.index-as_slice-number.result, unmet_first c.args.rules.now c.args.order.now c.loop-place.place c.index-as_slice-number.result c.args.state.now c.in-Some.found.vals c.next-fresh.result c.requires.ordered c.loop-place-test.true numbered c.loop-place.invariant u c.next-fresh.ensures.next)

pub loop-place-preserved : goal.loop-place-preserved
loop-place-preserved c =
    let numbered : slice_get c.args.rules.now (slice_index_or c.args.order.now c.loop-place.place 0) ≡ Some c.index-as_slice-number.result = numbered_at c.args.rules.now (slice_index_or c.args.order.now c.loop-place.place 0) c.index-as_slice-number.result (order_below c.args.rules.now c.args.order.now c.loop-place.place c.requires.ordered c.loop-place-test.true) (rw c.as_slice.ensures at c.index-as_slice-number.is) in
    let m : MeetsRule Const (GroundsOf c.args.state.now.facts) c.index-as_slice-number.result = rw c.store.ensures at (rw c.in_default.is at c.in_ok-found.ensures.none) in
    met_more c.args.rules.now c.args.order.now c.args.state.now.facts c.loop-place.place c.index-as_slice-number.result c.loop-place-test.true numbered c.loop-place.invariant m

pub returns-clause-none : goal.returns-clause-none
returns-clause-none c = met_all c.args.rules.now c.args.order.now c.args.state.now.facts c.requires.ordered
    (subst (AreMet c.args.rules.now c.args.state.now.facts) (take_all c.loop-place.place c.args.order.now c.loop-place-test.false) c.loop-place.invariant)
