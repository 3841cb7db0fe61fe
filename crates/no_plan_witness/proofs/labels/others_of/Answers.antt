-- A label that the bisection misses is one of the others.
use Rattle.std.proofs.Common.{◌∙◌, sym, ap, subst}
use Rattle.std.specs.Prelude.{Contains}
use Rattle.std.specs.List.Sorted.{IsStrictlyIncreasing}
use Rattle.std.proofs.lemmas.List.Kept.{IsStrictlyIncreasing-filter}
use Rattle.no_plan_witness.proofs.Apart.{is_other, searched_other, one_taken, one_left_out, all_taken, other_within, other_taken}
use Rattle.no_plan_witness.proofs.labels.others_of.Goals.{then-is_err+in_ok-push, else-is_err}
use Rattle.no_plan_witness.proofs.labels.others_of.Goals as goal

pub loop-label-preserved : goal.loop-label-preserved
loop-label-preserved c =
    let test = is_other c.args.integers.now in
    let found = searched_other c.args.integers.now _ c.binary_search.result c.requires.integers c.binary_search.ensures.position in
    elim c.if-is_err.branch [
      | then-is_err+in_ok-push w ↦ one_taken test c.args.labels.now c.loop-label.others.items c.if-is_err.others.items c.loop-label.label-index c.loop-label-test.true c.loop-label.invariant
          (sym found ∙ sym c.is_err.ensures.value ∙ w.if-is_err.true)
          (ap (λ v. v.items) w.others-is ∙ w.in_ok-push.ensures.items)
      | else-is_err w ↦ one_left_out test c.args.labels.now c.loop-label.others.items c.if-is_err.others.items c.loop-label.label-index c.loop-label-test.true c.loop-label.invariant
          (sym found ∙ sym c.is_err.ensures.value ∙ w.if-is_err.false)
          (ap (λ v. v.items) w.others-is)
    ]

pub returns-clause-ascend : goal.returns-clause-ascend
returns-clause-ascend c =
    subst IsStrictlyIncreasing (sym (all_taken (is_other c.args.integers.now) c.args.labels.now c.loop-label.others.items c.loop-label.label-index c.loop-label-test.false c.loop-label.invariant))
    (IsStrictlyIncreasing-filter (is_other c.args.integers.now) c.args.labels.now c.requires.labels)

pub returns-clause-within : goal.returns-clause-within
returns-clause-within c label among =
    (other_within c.args.integers.now c.args.labels.now label
    (subst (λ l. Contains l label) (all_taken (is_other c.args.integers.now) c.args.labels.now c.loop-label.others.items c.loop-label.label-index c.loop-label-test.false c.loop-label.invariant) among)).0

pub returns-clause-apart : goal.returns-clause-apart
returns-clause-apart c label among =
    (other_within c.args.integers.now c.args.labels.now label
    (subst (λ l. Contains l label) (all_taken (is_other c.args.integers.now) c.args.labels.now c.loop-label.others.items c.loop-label.label-index c.loop-label-test.false c.loop-label.invariant) among)).1

pub returns-clause-all : goal.returns-clause-all
returns-clause-all c label among apart =
    subst (λ l. Contains l label) (sym (all_taken (is_other c.args.integers.now) c.args.labels.now c.loop-label.others.items c.loop-label.label-index c.loop-label-test.false c.loop-label.invariant))
    (other_taken c.args.integers.now c.args.labels.now label among apart)
