use Rattle.std.proofs.Common.{◌≡◌, Some, true, false, sym, ap, ◌∙◌}
use Rattle.std.proofs.lemmas.Option.{slice_get-get_or}
use Rattle.exposure_search.proofs.MovesFrom.{marked_none, marked_more, marked_less, marked_all}
use Rattle.exposure_search.proofs.marks.marked_numbers.Goals as goal
use Rattle.exposure_search.proofs.marks.marked_numbers.Goals.{then-mark+in_ok-push, else-mark}

pub loop-number-init : goal.loop-number-init
loop-number-init c = rw c.new-numbers.ensures.items (marked_none c.args.marks.now)

pub loop-number-preserved : goal.loop-number-preserved
loop-number-preserved c =
    let at = slice_get-get_or c.args.marks.now c.loop-number.number false c.loop-number-test.true in
    elim c.if-mark.branch [
      | then-mark+in_ok-push w ↦
          rw (w.numbers-is, w.in_ok-push.ensures.items) (marked_more c.args.marks.now c.loop-number.number c.loop-number.numbers.items c.loop-number.invariant (at ∙ ap (λ b. Some b) w.if-mark.true))
      | else-mark w ↦
          rw w.numbers-is (marked_less c.args.marks.now c.loop-number.number c.loop-number.numbers.items c.loop-number.invariant (λ on. let clash : Some true ≡ Some false = sym on ∙ at ∙ ap (λ b. Some b) w.if-mark.false in absurd (cc)))
    ]

pub returns : goal.returns
returns c = marked_all c.args.marks.now c.loop-number.number c.loop-number.numbers.items c.loop-number.invariant c.loop-number-test.false
