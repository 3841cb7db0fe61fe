use Rattle.std.proofs.Common.{◌∙◌}
use Rattle.middleware.proofs.Whole.{grows_to}
use Rattle.middleware.proofs.Parting.{only_grown}
use Rattle.middleware.proofs.partial_rows.join.Goals as goal

pub returns-then-grows_to_answer : goal.returns-then-grows_to_answer
returns-then-grows_to_answer c = λ answer is.
    grows_to c.args.places.now c.args.inputs.now c.args.requests.now c.args.answers c.args.rows.now answer c.into_rows.result
    (c.grows_to_answer.ensures c.if-grows_to_answer.true)
    is c.requires.asked c.into_rows.ensures

pub returns : goal.returns
returns c = λ answer is.
    c.in_ok-joined.ensures ∙ only_grown c.args.places.now c.args.inputs.now c.args.requests.now c.args.rows.now c.args.answers c.in-Some.only.now answer c.in-Some.ensures is c.requires.asked

pub returns-2 : goal.returns-2
returns-2 c = λ answer is. c.in_ok-next.ensures answer is (λ row among absent. absurd (absent (c.requires.asked row among)))
