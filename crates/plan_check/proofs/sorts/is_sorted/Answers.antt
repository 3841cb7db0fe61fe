use Rattle.std.proofs.Common.{◌≡◌, true, false, refl}
use Rattle.lists.proofs.Places.{got_indexed}
use Rattle.access_schema.specs.Meaning.{meaning_of}
use Rattle.sql_select.proofs.Sorted.{denied}
use Rattle.plan_check.proofs.Sorting.{sorted_more, not_sorted, all_sorted}
use Rattle.plan_check.proofs.sorts.is_sorted.Goals as goal

pub returns-then-not-may_stand : goal.returns-then-not-may_stand
returns-then-not-may_stand c = (
  (λ no. let never : false ≡ true = no in absurd (cc)),
  (λ sorted.
      let got = got_indexed c.as_slice-terms.result.now c.loop-place.place c.index-terms-place.result
      c.loop-place-test.true c.index-terms-place.is in
      absurd (not_sorted (meaning_of c.args.schema.now) c.args.atom.now.rel c.args.atom.now.terms c.loop-place.place
      c.index-terms-place.result (rw c.as_slice-terms.ensures at got)
      (denied _ c.may_stand.ensures c.if-not-may_stand.true) sorted)),
)

pub loop-place-preserved : goal.loop-place-preserved
loop-place-preserved c =
    sorted_more (meaning_of c.args.schema.now) c.args.atom.now.rel c.as_slice-terms.result.now c.loop-place.place
    c.index-terms-place.result
    (got_indexed c.as_slice-terms.result.now c.loop-place.place c.index-terms-place.result c.loop-place-test.true
    c.index-terms-place.is)
    c.loop-place.invariant (c.may_stand.ensures.0 c.if-not-may_stand.false)

pub returns : goal.returns
returns c = (
  (λ _. rw c.as_slice-terms.ensures at
      (all_sorted (meaning_of c.args.schema.now) c.args.atom.now.rel c.as_slice-terms.result.now c.loop-place.place
      c.loop-place-test.false c.loop-place.invariant)),
  (λ _. refl),
)
