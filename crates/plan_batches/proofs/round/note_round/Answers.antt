use Rattle.plan_batches.proofs.round.note_round.Goals as goal

pub turns-requires-clause-is_book : goal.turns-requires-clause-is_book
turns-requires-clause-is_book c = c.requires.standing.1.is_book

pub turns-requires-clause-ready : goal.turns-requires-clause-ready
turns-requires-clause-ready c = c.requires.ready

pub turns-requires-clause-at : goal.turns-requires-clause-at
turns-requires-clause-at c = (c.requires.standing.0, c.requires.standing.1.members)

pub turns-requires-clause-lines : goal.turns-requires-clause-lines
turns-requires-clause-lines c = c.requires.lines
