use Rattle.std.proofs.Common.{◌≡◌, ◌+◌, ◌++◌, ◌∷◌, [], take}
use Rattle.lists.proofs.Places.{take_got, got_indexed}
use Rattle.homomorphism.proofs.Covering.{told, denied}
use Rattle.exposure_search.specs.Ahead.{facts_along}
use Rattle.exposure_search.proofs.MovesFrom.{from_more, from_less}
use Rattle.exposure_search.proofs.candidates.moves_from.Goals as goal
use Rattle.exposure_search.proofs.candidates.moves_from.Goals.{then-can_be_made+in_ok-add_move, else-can_be_made}

pub loop-candidate-preserved : goal.loop-candidate-preserved
loop-candidate-preserved c =
    let facts = facts_along c.args.facts.now c.args.path.now in
    let candidate = c.candidate-item.result in
    let turn : take (c.loop-candidate.candidate-index + 1) c.args.candidates.now ≡ take c.loop-candidate.candidate-index c.args.candidates.now ++ candidate ∷ [] =
    take_got c.args.candidates.now c.loop-candidate.candidate-index candidate (got_indexed c.args.candidates.now c.loop-candidate.candidate-index candidate c.loop-candidate-test.true c.candidate-item.is) in
    elim c.if-can_be_made.branch [
      | then-can_be_made+in_ok-add_move w ↦
          rw (w.moves-is, turn) (from_more facts c.args.set.now c.args.below (take c.loop-candidate.candidate-index c.args.candidates.now) c.loop-candidate.moves.items c.loop-candidate.invariant candidate
          (told _ c.can_be_made.ensures w.if-can_be_made.true) w.add_move.new.moves.items w.in_ok-add_move.ensures.each w.in_ok-add_move.ensures.served w.in_ok-add_move.ensures.stay)
      | else-can_be_made w ↦
          rw (w.moves-is, turn) (from_less facts c.args.set.now c.args.below (take c.loop-candidate.candidate-index c.args.candidates.now) c.loop-candidate.moves.items c.loop-candidate.invariant candidate
          (denied _ c.can_be_made.ensures w.if-can_be_made.false))
    ]
