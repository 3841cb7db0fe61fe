-- What became of the rules on a lane, by where the function returns.
use Rattle.std.proofs.lemmas.Result.{err_from_is_err_and}
use Rattle.rule_rows.specs.Verifying.Tests.{no_memory}
use Rattle.rule_rows.proofs.Asking.{asks_whole}
use Rattle.rule_rows.proofs.Results.{unasked, all_found}
use Rattle.rule_rows.proofs.testing.test_rules.Goals as goal

pub returns-in_err-facts-clause-tests : goal.returns-in_err-facts-clause-tests
returns-in_err-facts-clause-tests g c =
    let told = err_from_is_err_and c.from_residual.result c.from_residual.ensures.1 in
    rw (told.1, told.2) (unasked g.S.Source.seen c.args.schema.now c.args.rels.now c.args.lane.now.kinds.items c.ask_all.new.lane.kinds.items
    c.in_err-facts.field-0.0 c.in_err-facts.ensures.stops)

pub returns-in-Ok-clause-tests : goal.returns-in-Ok-clause-tests
returns-in-Ok-clause-tests g c =
    all_found g.S.Source.seen c.args.schema.now c.args.rels.now c.args.lane.now.kinds.items c.ask_all.new.lane.kinds.items
    c.requires.ascend c.requires.among c.requires.ready
    c.in_ok-facts.facts c.in-Ok.found c.in_ok-facts.ensures.asked (record { met = c.in-Ok.ensures.met; broken = c.in-Ok.ensures.broken })

pub returns-in-Err-clause-tests : goal.returns-in-Err-clause-tests
returns-in-Err-clause-tests g c =
    no_memory (asks_whole g.S.Source.seen c.args.schema.now c.args.rels.now c.in_ok-facts.facts c.args.lane.now.kinds.items c.ask_all.new.lane.kinds.items c.in_ok-facts.ensures.asked)
