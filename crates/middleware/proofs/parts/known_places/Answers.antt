use Rattle.middleware.proofs.Parting.{known_more, kept_known}
use Rattle.middleware.proofs.parts.known_places.Goals.{then-is_known+in_ok-push, else-is_known}
use Rattle.middleware.proofs.parts.known_places.Goals as goal

pub loop-position-preserved : goal.loop-position-preserved
loop-position-preserved c = elim c.if-is_known.branch [
  | then-is_known+in_ok-push w ↦
      known_more c.args.places.now c.columns_of-columns.result c.loop-position.known c.if-is_known.known w.push.new.self c.loop-position.position w.known-is w.in_ok-push.ensures.items
      (c.is_known.ensures w.if-is_known.true) c.loop-position.invariant
  | else-is_known w ↦ kept_known c.args.places.now c.columns_of-columns.result c.loop-position.known c.if-is_known.known w.known-is c.loop-position.invariant
]
