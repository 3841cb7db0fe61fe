use Rattle.meaning_laws.proofs.Monotone.{rows_grow_lem}
use Rattle.integer_laws.proofs.laws.no_sorted_plan.Goals as goal

pub returns : goal.returns
returns c schema constants statement first second row well pair plan lawful same =
    let refutes = pair.refutes in
    let here = same.complete first row (record { model = refutes.first_meets; sorted = pair.first_sorted }) refutes.answered in
    refutes.not_answered (same.sound second row (record { model = refutes.second_meets; sorted = pair.second_sorted })
    (rows_grow_lem schema constants plan first second well lawful refutes.included row here))
