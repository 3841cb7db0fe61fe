-- The tests so far, and what the last one says.
use Rattle.access_schema.specs.Meaning.{meaning_of}
use Rattle.no_plan_witness.specs.Judging.{known_of}
use Rattle.no_plan_witness.proofs.Judging.{not_answered, still_answered, refuted}
use Rattle.no_plan_witness.proofs.judge_witness.check_witness.Goals as goal

pub returns-then-not-branch-clause-fault : goal.returns-then-not-branch-clause-fault
returns-then-not-branch-clause-fault c =
    not_answered (meaning_of c.args.schema.now) c.in_ok-constants.constants (known_of c.args.schema.now c.args.statement.now) c.in_ok-constants.ensures.order c.args.statement.now c.args.pair.now
    (rw c.in_default.is at c.in_ok-rule.ensures.none) (rw c.in_default-2.is at c.in_ok-rule-2.ensures.none) (rw c.in_default-3.is at c.in_ok-fact.ensures.none)
    c.in_ok-is_answer.field-0 c.in_ok-is_answer.ensures c.if-not-branch.true

pub returns-then-branch-clause-fault : goal.returns-then-branch-clause-fault
returns-then-branch-clause-fault c =
    still_answered (meaning_of c.args.schema.now) c.in_ok-constants.constants (known_of c.args.schema.now c.args.statement.now) c.in_ok-constants.ensures.order c.args.statement.now c.args.pair.now
    (rw c.in_default.is at c.in_ok-rule.ensures.none) (rw c.in_default-2.is at c.in_ok-rule-2.ensures.none) (rw c.in_default-3.is at c.in_ok-fact.ensures.none)
    c.in_ok-is_answer.field-0 c.in_ok-is_answer.ensures c.if-not-branch.false c.in_ok-is_answer-2.field-0 c.if-branch.true c.in_ok-is_answer-2.ensures

pub returns-clause-ok : goal.returns-clause-ok
returns-clause-ok c = record {
  refutes =
      refuted (meaning_of c.args.schema.now) c.in_ok-constants.constants (known_of c.args.schema.now c.args.statement.now) c.in_ok-constants.ensures.order c.args.statement.now c.args.pair.now
      (rw c.in_default.is at c.in_ok-rule.ensures.none) (rw c.in_default-2.is at c.in_ok-rule-2.ensures.none) (rw c.in_default-3.is at c.in_ok-fact.ensures.none)
      c.in_ok-is_answer.field-0 c.in_ok-is_answer.ensures c.if-not-branch.false c.in_ok-is_answer-2.field-0 c.if-branch.false c.in_ok-is_answer-2.ensures
      c.requires.first c.requires.second;
  first_sorted = c.requires.first_sorted;
  second_sorted = c.requires.second_sorted;
}
