use Rattle.plan_execution.proofs.rounds.fn.all_rounds.ask.Goals as goal

pub ask_tested-requires-clause-lanes : goal.ask_tested-requires-clause-lanes
ask_tested-requires-clause-lanes g c κs within = c.requires.some

pub ask_tested-requires-clause-going : goal.ask_tested-requires-clause-going
ask_tested-requires-clause-going g c κs within = c.requires.going

pub ask_tested-requires-clause-askable : goal.ask_tested-requires-clause-askable
ask_tested-requires-clause-askable g c κs within = c.requires.askable

pub ask_tested-requires-clause-few : goal.ask_tested-requires-clause-few
ask_tested-requires-clause-few g c κs within = c.requires.few

pub ask_tested-requires-clause-values : goal.ask_tested-requires-clause-values
ask_tested-requires-clause-values g c κs within = c.requires.values
