use Rattle.std.proofs.Common.{sym, ap, ◌∙◌}
use Rattle.meaning.specs.Triggers.{State}
use Rattle.access_schema.specs.Meaning.{meaning_of}
use Rattle.exposure_search.proofs.Visited.{moves_seen}
use Rattle.exposure_search.proofs.visiting.visit_copy.Goals as goal

pub moves_after-requires-clause-facts : goal.moves_after-requires-clause-facts
moves_after-requires-clause-facts c = c.requires.aimed.ready.facts_are ∙ sym (ap (λ (s : State). s.facts) c.look_along.ensures.same.base)

pub returns-clause-visit : goal.returns-clause-visit
returns-clause-visit c = record {
  ended = c.in_ok-end.ensures.ended;
  few = c.in_ok-end.ensures.room;
  spent = c.in_ok-end.ensures.spent;
  moves = moves_seen (meaning_of c.args.aim.now.schema.now) c.args.aim.now.queries.now c.args.aim.now.head.now c.args.aim.now.budget c.args.aim.now.marks c.args.proof.now c.look_along.new.proof c.args.path.now c.args.set.now
      c.look_along.ensures.exposes c.look_along.ensures.same c.in_ok-end.ensures.made c.requires.walk c.in_ok-end.end c.args.below c.in_ok-moves.moves.items c.in_ok-moves.ensures.active c.in_ok-moves.ensures.all;
}
