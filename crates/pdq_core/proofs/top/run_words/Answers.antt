-- Each arm is one way in which a run ends.
use Rattle.std.proofs.Common.{[], refl}
use Rattle.source_trait.proofs.LaneSteps.{LanesStay-refl}
use Rattle.command_io.specs.declared.stop.Stop.TheVariants as stop
use Rattle.command_io.proofs.Lines.{said_tells}
use Rattle.command_words.specs.Words.{IsCommand, task_seen_as}
use Rattle.command_words.specs.Words.Command.{Help, Schema, Explain, Check, Verify, World}
use Rattle.pdq_core.specs.Runs.Runs.{no_command, help, schema, explain, check, verify, world}
use Rattle.pdq_core.proofs.Ways.{few_explained, units_explained, few_checked, world_within, task_within, task_runs}
use Rattle.pdq_core.proofs.top.run_words.Goals as goal

pub returns-in-None-clause-run : goal.returns-in-None-clause-run
returns-in-None-clause-run g c = rw (c.status.ensures, ← c.outside.view_is, ← c.outside-inside.view_is) (no_command c.say.result c.in-None.ensures.none (record {
  given = stop.Words;
  cause = refl;
  tells = said_tells _ _ _ (record { schema = []; query = []; plan = []; relations = [] }) stop.Words c.say.result c.say.ensures.said;
}) refl refl)

pub returns-in-None-clause-lanes : goal.returns-in-None-clause-lanes
returns-in-None-clause-lanes g c = LanesStay-refl g.S.Source.seen c.args.lanes.now.items

pub returns-in-Some-Help-clause-run : goal.returns-in-Some-Help-clause-run
returns-in-Some-Help-clause-run g c =
    let is : IsCommand c.args.words.now Help = rw c.in-Some-Help.field-0-is at c.in-Some-Help.ensures.some in
    rw (c.ended.ensures, ← c.outside-in-Some-Help.view_is) (help c.print_usage.result is c.print_usage.ensures.ends refl)

pub returns-in-Some-Help-clause-lanes : goal.returns-in-Some-Help-clause-lanes
returns-in-Some-Help-clause-lanes g c = LanesStay-refl g.S.Source.seen c.args.lanes.now.items

pub returns-in-Some-Schema-clause-run : goal.returns-in-Some-Schema-clause-run
returns-in-Some-Schema-clause-run g c =
    let is : IsCommand c.args.words.now (Schema c.in-Some-Schema.schema.now) = rw c.in-Some-Schema.field-0-is at c.in-Some-Schema.ensures.some in
    rw c.ended-in-Some-Schema.ensures (schema c.in-Some-Schema.schema.now c.print_schema.result is c.print_schema.ensures.ends refl)

pub returns-in-Some-Schema-clause-stays : goal.returns-in-Some-Schema-clause-stays
returns-in-Some-Schema-clause-stays g c = c.print_schema.ensures.stays

pub returns-in-Some-Schema-clause-lanes : goal.returns-in-Some-Schema-clause-lanes
returns-in-Some-Schema-clause-lanes g c = LanesStay-refl g.S.Source.seen c.args.lanes.now.items

pub returns-in-Some-Explain-clause-run : goal.returns-in-Some-Explain-clause-run
returns-in-Some-Explain-clause-run g c =
    let its = c.in-Some-Explain in
    let is : IsCommand c.args.words.now (Explain its.schema.now its.query.now its.firings its.search) = rw its.field-0-is at its.ensures.some in
    rw c.ended-in-Some-Explain.ensures
    (explain its.schema.now its.query.now its.firings its.search c.explain_query.result is c.explain_query.ensures.ends refl)

pub returns-in-Some-Explain-clause-stays : goal.returns-in-Some-Explain-clause-stays
returns-in-Some-Explain-clause-stays g c = c.explain_query.ensures.stays

pub returns-in-Some-Explain-clause-lanes : goal.returns-in-Some-Explain-clause-lanes
returns-in-Some-Explain-clause-lanes g c = LanesStay-refl g.S.Source.seen c.args.lanes.now.items

pub explain_query-requires-clause-budget : goal.explain_query-requires-clause-budget
explain_query-requires-clause-budget g c =
    let its = c.in-Some-Explain in
    few_explained c.args.words.now its.schema.now its.query.now its.firings its.search (rw its.field-0-is at its.ensures.some)

pub explain_query-requires-clause-units : goal.explain_query-requires-clause-units
explain_query-requires-clause-units g c =
    let its = c.in-Some-Explain in
    units_explained c.args.words.now its.schema.now its.query.now its.firings its.search (rw its.field-0-is at its.ensures.some)

pub returns-in-Some-Check-clause-run : goal.returns-in-Some-Check-clause-run
returns-in-Some-Check-clause-run g c =
    let its = c.in-Some-Check in
    let is : IsCommand c.args.words.now (Check its.schema.now its.query.now its.plan.now its.firings) = rw its.field-0-is at its.ensures.some in
    rw c.ended-in-Some-Check.ensures
    (check its.schema.now its.query.now its.plan.now its.firings c.check_plan.result is c.check_plan.ensures.ends refl)

pub returns-in-Some-Check-clause-stays : goal.returns-in-Some-Check-clause-stays
returns-in-Some-Check-clause-stays g c = c.check_plan.ensures.stays

pub returns-in-Some-Check-clause-lanes : goal.returns-in-Some-Check-clause-lanes
returns-in-Some-Check-clause-lanes g c = LanesStay-refl g.S.Source.seen c.args.lanes.now.items

pub check_plan-requires : goal.check_plan-requires
check_plan-requires g c =
    let its = c.in-Some-Check in
    few_checked c.args.words.now its.schema.now its.query.now its.plan.now its.firings (rw its.field-0-is at its.ensures.some)

pub returns-in-Some-Verify-clause-run : goal.returns-in-Some-Verify-clause-run
returns-in-Some-Verify-clause-run g c =
    let is : IsCommand c.args.words.now (Verify c.in-Some-Verify.schema.now) = rw c.in-Some-Verify.field-0-is at c.in-Some-Verify.ensures.some in
    rw c.ended-in-Some-Verify.ensures (verify c.in-Some-Verify.schema.now c.verify_rules.result is c.verify_rules.ensures.ends)

pub returns-in-Some-Verify-clause-stays : goal.returns-in-Some-Verify-clause-stays
returns-in-Some-Verify-clause-stays g c = c.verify_rules.ensures.stays

pub returns-in-Some-Verify-clause-lanes : goal.returns-in-Some-Verify-clause-lanes
returns-in-Some-Verify-clause-lanes g c = c.verify_rules.ensures.lanes

pub returns-in-Some-Calling-clause-run : goal.returns-in-Some-Calling-clause-run
returns-in-Some-Calling-clause-run g c =
    let its = c.in-Some-Calling in
    let is : IsCommand c.args.words.now (task_seen_as its.workers its.calls its.task) = rw its.field-0-is at its.ensures.some in
    rw c.ended-in-Some-Calling.ensures (task_runs _ _ _ _ _ _ its.task its.workers its.calls
    c.task_on_first.result is c.task_on_first.ensures.ends c.task_on_first.ensures.behind)

pub returns-in-Some-Calling-clause-stays : goal.returns-in-Some-Calling-clause-stays
returns-in-Some-Calling-clause-stays g c = c.task_on_first.ensures.stays

pub returns-in-Some-Calling-clause-lanes : goal.returns-in-Some-Calling-clause-lanes
returns-in-Some-Calling-clause-lanes g c = c.task_on_first.ensures.lanes

pub task_on_first-requires-clause-within : goal.task_on_first-requires-clause-within
task_on_first-requires-clause-within g c κs within =
    let its = c.in-Some-Calling in
    (task_within c.args.words.now its.task its.workers its.calls (rw its.field-0-is at its.ensures.some)).0

pub task_on_first-requires-clause-workers : goal.task_on_first-requires-clause-workers
task_on_first-requires-clause-workers g c κs within =
    let its = c.in-Some-Calling in
    (task_within c.args.words.now its.task its.workers its.calls (rw its.field-0-is at its.ensures.some)).1

pub task_on_first-requires-clause-calls : goal.task_on_first-requires-clause-calls
task_on_first-requires-clause-calls g c κs within =
    let its = c.in-Some-Calling in
    (task_within c.args.words.now its.task its.workers its.calls (rw its.field-0-is at its.ensures.some)).2

pub returns-in-Some-World-clause-run : goal.returns-in-Some-World-clause-run
returns-in-Some-World-clause-run g c =
    let its = c.in-Some-World in
    let is : IsCommand c.args.words.now (World its.size its.workers) = rw its.field-0-is at its.ensures.some in
    rw (c.ended-in-Some-World.ensures, ← c.outside-in-Some-World.view_is)
    (world its.size its.workers c.world_on_first.result is c.world_on_first.ensures.ends c.world_on_first.ensures.behind)

pub returns-in-Some-World-clause-lanes : goal.returns-in-Some-World-clause-lanes
returns-in-Some-World-clause-lanes g c = c.world_on_first.ensures.lanes

pub world_on_first-requires-clause-small : goal.world_on_first-requires-clause-small
world_on_first-requires-clause-small g c κs within =
    let its = c.in-Some-World in
    (world_within c.args.words.now its.size its.workers (rw its.field-0-is at its.ensures.some)).0

pub world_on_first-requires-clause-workers : goal.world_on_first-requires-clause-workers
world_on_first-requires-clause-workers g c κs within =
    let its = c.in-Some-World in
    (world_within c.args.words.now its.size its.workers (rw its.field-0-is at its.ensures.some)).1
