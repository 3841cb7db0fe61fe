use Rattle.middleware.proofs.Finding.{line_there}
use Rattle.middleware.proofs.LaneRequests.{first_there, first_ready, first_of}
use Rattle.middleware.proofs.asking.ask_first.Goals as goal

pub line_of-line-requires : goal.line_of-line-requires
line_of-line-requires g c = line_there g.S.Source.seen c.args.schema.now c.args.method.now c.args.lanes.now c.requires.lanes c.requires.askable

pub ask_all-result-requires-clause-there : goal.ask_all-result-requires-clause-there
ask_all-result-requires-clause-there g c κs within =
    first_there g.S.Source.seen c.args.schema.now c.args.method.now c.line_of-line.result.now
    c.line_of-line.ensures
    c.args.requests.now c.args.lanes.now c.index-lanes-0.result c.requires.lanes c.requires.askable

pub ask_all-result-requires-clause-ready : goal.ask_all-result-requires-clause-ready
ask_all-result-requires-clause-ready g c κs within =
    first_ready g.S.Source.seen c.args.schema.now c.args.method.now c.line_of-line.result.now
    c.line_of-line.ensures
    c.args.requests.now c.args.lanes.now c.index-lanes-0.result c.requires.lanes c.requires.askable c.requires.values

pub returns : goal.returns
returns g c =
    first_of g.S.Source.seen c.args.schema.now c.args.method.now c.line_of-line.result.now
    c.line_of-line.ensures
    c.args.requests.now c.ask_all-result.result c.args.lanes.now c.index-lanes-0.result _ c.requires.lanes c.requires.going c.ask_all-result.ensures.steps c.is_err-lane.ensures.value c.ask_all-result.ensures.breaks
