use Rattle.no_plan_witness.proofs.judge_witness.is_answer.Goals as goal

pub returns : goal.returns
returns c =
    let among = rw c.as_slice.ensures at c.has.ensures in
    let answers = c.in_ok-rows.ensures.members c.args.row.now in
    ((λ t. answers.0 (among.0 t)), (λ a. among.1 (answers.1 a)))
