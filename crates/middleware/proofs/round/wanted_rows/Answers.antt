use Rattle.middleware.proofs.Distinct.{wanted_of}
use Rattle.middleware.proofs.round.wanted_rows.Goals as goal

pub returns-clause-wanted : goal.returns-clause-wanted
returns-clause-wanted c =
    wanted_of c.args.places.now c.args.inputs.now c.in_ok-sorted.sorted c.in_ok-list.list c.in_ok-requests.requests
    c.in_ok-list.ensures c.in_ok-requests.ensures.ascends c.in_ok-requests.ensures.same
