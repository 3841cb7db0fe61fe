-- A fact is missing where the first part has it and the second has not.
use Rattle.std.proofs.Common.{sym, subst}
use Rattle.access_schema.specs.Meaning.{meaning_of}
use Rattle.no_plan_witness.specs.Judging.{IsFirstMissing}
use Rattle.no_plan_witness.proofs.Judging.{shared_more, shared_all, missing_at}
use Rattle.no_plan_witness.proofs.judge_witness.first_missing.Goals.{else-has-via-then-has+else-not-has, else-has-via-else-has}
use Rattle.no_plan_witness.proofs.judge_witness.first_missing.Goals as goal

pub returns-then-not-has-clause-some : goal.returns-then-not-has-clause-some
returns-then-not-has-clause-some c =
    let first = rw c.as_slice.ensures at c.has.ensures in
    let second = rw c.as_slice-then-has.ensures at c.has-then-has.ensures in
    subst (IsFirstMissing (meaning_of c.args.schema.now) c.args.constants.now c.args.pair.now.first c.args.pair.now.second) (sym c.in_ok-copy.ensures)
    (missing_at (meaning_of c.args.schema.now) c.args.constants.now c.args.pair.now.first c.args.pair.now.second c.as_slice-fact-items.result.now c.loop-fact.fact-index c.fact-item.result
    c.as_slice-fact-items.ensures c.loop-fact-test.true c.fact-item.is c.loop-fact.invariant
    ((c.in_ok-first.ensures.exactly c.fact-item.result).0 (first.0 c.if-has.true))
    (λ h. let yes = second.1 ((c.in_ok-second.ensures.exactly c.fact-item.result).1 h) in let no = c.if-not-has.true in (cc)))

pub loop-fact-preserved : goal.loop-fact-preserved
loop-fact-preserved c =
    let first = rw c.as_slice.ensures at c.has.ensures in
    shared_more (meaning_of c.args.schema.now) c.args.constants.now c.args.pair.now.first c.args.pair.now.second c.as_slice-fact-items.result.now c.loop-fact.fact-index c.fact-item.result
    c.as_slice-fact-items.ensures c.loop-fact-test.true c.fact-item.is c.loop-fact.invariant
    (λ accessible. elim c.else-has.branch [
      | else-has-via-then-has+else-not-has w ↦
          let second = rw w.as_slice-then-has.ensures at w.has-then-has.ensures in
          (c.in_ok-second.ensures.exactly c.fact-item.result).0 (second.0 w.if-not-has.false)
      | else-has-via-else-has w ↦ absurd (let yes = first.1 ((c.in_ok-first.ensures.exactly c.fact-item.result).1 accessible) in let no = w.if-has.false in cc)
    ])

pub returns-clause-none : goal.returns-clause-none
returns-clause-none c = shared_all (meaning_of c.args.schema.now) c.args.constants.now c.args.pair.now.first c.args.pair.now.second c.as_slice-fact-items.result.now c.loop-fact.fact-index c.as_slice-fact-items.ensures c.loop-fact-test.false c.loop-fact.invariant
