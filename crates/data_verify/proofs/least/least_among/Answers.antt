use Rattle.homomorphism.specs.Rules.{IsMet, IsUnmet}
use Rattle.data_verify.proofs.Choosing.{turn_met, turn_unmet, none_left, some_left}
use Rattle.data_verify.proofs.least.least_among.Goals.{then-not-branch+in_ok-rows, else-not-branch}
use Rattle.data_verify.proofs.least.least_among.Goals as goal

pub loop-one-preserved : goal.loop-one-preserved
loop-one-preserved c = elim c.if-not-branch.branch [
  | then-not-branch+in_ok-rows w ↦
      let u : IsUnmet c.args.store.now c.args.rule.now c.one-item.result.vals = rw c.as_slice.ensures at (c.in_ok-is_met.ensures.unmet w.if-not-branch.true) in
      rw w.least-is (turn_unmet c.args.store.now c.args.rule.now c.as_slice-one-items.result.now c.loop-one.one-index c.one-item.result c.loop-one-test.true c.one-item.is c.loop-one.least w.in_ok-rows.rows w.lesser.result u
      (rw w.as_slice-then-not-branch.ensures at (rw w.as_slice-then-not-branch-2.ensures at w.in_ok-rows.ensures)) w.lesser.ensures c.loop-one.invariant)
  | else-not-branch w ↦
      let m : IsMet c.args.store.now c.args.rule.now c.one-item.result.vals = rw c.as_slice.ensures at (c.in_ok-is_met.ensures.met w.if-not-branch.false) in
      rw w.least-is (turn_met c.args.store.now c.args.rule.now c.as_slice-one-items.result.now c.loop-one.one-index c.one-item.result c.loop-one-test.true c.one-item.is c.loop-one.least m c.loop-one.invariant)
]

pub returns-in-None-clause-none : goal.returns-in-None-clause-none
returns-in-None-clause-none c = none_left c.args.store.now c.args.rule.now c.in_ok-found.found c.as_slice-one-items.result.now c.loop-one.one-index c.as_slice-one-items.ensures c.loop-one-test.false c.in_ok-found.ensures c.loop-one.least c.in-None.is c.loop-one.invariant

pub returns-clause-some : goal.returns-clause-some
returns-clause-some c = some_left c.args.store.now c.args.rule.now c.in_ok-found.found c.as_slice-one-items.result.now c.loop-one.one-index c.as_slice-one-items.ensures c.loop-one-test.false c.in_ok-found.ensures c.loop-one.least c.in-Some.rows c.in_ok-facts_with-in-Some.field-0 c.in-Some.is c.loop-one.invariant
    (rw c.as_slice-in-Some.ensures at (rw c.as_slice-in-Some-2.ensures at c.in_ok-facts_with-in-Some.ensures))
