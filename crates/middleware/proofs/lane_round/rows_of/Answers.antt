use Rattle.std.proofs.Common.{◌∷◌, ◌∙◌, ap}
use Rattle.std.specs.Vec.Iter.{into_iter_items}
use Rattle.middleware.proofs.LaneResults.{first_failed, none_skipped}
use Rattle.middleware.proofs.lane_round.rows_of.Goals as goal

pub returns-in-Failed-clause-first : goal.returns-in-Failed-clause-first
returns-in-Failed-clause-first c =
    let rest = into_iter_items c.next.new.self in
    first_failed c.loop-answer.rows c.loop-answer.yielded (into_iter_items c.loop-answer.answer-iterator) c.args.answers.items
    c.loop-answer.invariant.parts c.loop-answer.invariant.rows c.loop-answer.number rest
    (c.in-Some.ensures.steps.0 ∙ ap (λ answer. answer ∷ rest) c.in-Failed.is) c.loop-answer.invariant.number

pub unreachable-requires : goal.unreachable-requires
unreachable-requires c =
    let rest = into_iter_items c.next.new.self in
    none_skipped c.loop-answer.rows c.loop-answer.yielded (into_iter_items c.loop-answer.answer-iterator) c.args.answers.items
    c.loop-answer.invariant.parts c.loop-answer.invariant.rows rest
    (c.in-Some.ensures.steps.0 ∙ ap (λ answer. answer ∷ rest) c.in-Skipped.is) c.requires.skips
