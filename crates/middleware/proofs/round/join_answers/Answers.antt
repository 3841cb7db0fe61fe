use Rattle.std.proofs.Common.{refl}
use Rattle.middleware.proofs.Laning.{wanted_there}
use Rattle.middleware.proofs.round.join_answers.Goals as goal

pub join-requires-clause-asked : goal.join-requires-clause-asked
join-requires-clause-asked c = λ row among.
    wanted_there c.args.places.now c.args.inputs.now c.args.wanted.now.rows c.args.wanted.now.requests c.args.wanted.now.requests row
    refl c.requires.wanted among

pub returns : goal.returns
returns c = record { ordered = c.in_ok-ordered.ordered; same = c.in_ok-ordered.ensures; joins = c.in_ok-next.ensures }
