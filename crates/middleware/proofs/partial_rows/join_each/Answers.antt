use Rattle.std.proofs.Common.{◌≡◌, ◌∙◌, List, ℕ, Bor, ap, map, arith}
use Rattle.middleware.specs.Joining.{input_row_of}
use Rattle.middleware.proofs.Parting.{joined_there, joined_absent}
use Rattle.middleware.proofs.partial_rows.join_each.Goals.{in-Some+in_ok-next-in-Some, in-None}
use Rattle.middleware.proofs.partial_rows.join_each.Goals as goal

pub loop-number-preserved : goal.loop-number-preserved
loop-number-preserved c = λ answer is others.
    let places = c.args.places.now in
    let values = map (λ s. s.now) c.as_slice.result.now in
    let key : values ≡ input_row_of places c.args.inputs.now c.at-row.result = ap (λ (l : List (Bor (List ℕ))). map (λ s. s.now) l) c.as_slice.ensures.value ∙ c.in_ok-input_texts.ensures in
    elim c.match-answer_for.branch [
      | in-Some+in_ok-next-in-Some w ↦
          joined_there places c.args.inputs.now answer c.args.rows.now c.loop-number.number c.at-row.result values (omega arith) c.at-row.ensures key
          c.loop-number.next c.match-answer_for.next (c.loop-number.invariant answer is others) w.in-Some.answer (w.in-Some.ensures answer is) (w.next-is ∙ w.in_ok-next-in-Some.ensures)
      | in-None w ↦
          joined_absent places c.args.inputs.now answer c.args.rows.now c.loop-number.number c.at-row.result values (omega arith) c.at-row.ensures key
          c.loop-number.next c.match-answer_for.next (c.loop-number.invariant answer is others) c.args.requests.now others (w.in-None.ensures answer is) w.next-is
    ]
