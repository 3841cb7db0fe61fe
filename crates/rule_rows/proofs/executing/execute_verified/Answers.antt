-- The rules are not tested, or one is not met, or the plan is executed.
use Rattle.source_trait.proofs.LaneSteps.{LanesStay-trans}
use Rattle.rule_rows.specs.Executing.RunsVerified.{not_verified, not_met, halted, ran}
use Rattle.rule_rows.proofs.Results.{verified_lane, verified_attached}
use Rattle.rule_rows.proofs.executing.execute_verified.Goals as goal

pub returns-in-Err-clause-runs : goal.returns-in-Err-clause-runs
returns-in-Err-clause-runs g c = not_verified c.in-Err.fault c.in-Err.ensures.verifies

pub returns-in-Ok-Some-clause-runs : goal.returns-in-Ok-Some-clause-runs
returns-in-Ok-Some-clause-runs g c = not_met c.in-Ok-Some.broken (rw c.in-Ok-Some.field-0-is at c.in-Ok-Some.ensures.verifies)

pub execute_attached-requires-clause-some : goal.execute_attached-requires-clause-some
execute_attached-requires-clause-some g c κs within =
    verified_lane g.S.Source.seen c.args.schema.now c.args.plan.now c.args.lanes.now c.verify_for.new.lanes
    (rw c.in-Ok-None.field-0-is at c.in-Ok-None.ensures.verifies)

pub execute_attached-requires-clause-attached : goal.execute_attached-requires-clause-attached
execute_attached-requires-clause-attached g c κs within =
    verified_attached g.S.Source.seen c.args.schema.now c.args.plan.now c.args.lanes.now c.verify_for.new.lanes
    (rw c.in-Ok-None.field-0-is at c.in-Ok-None.ensures.verifies)

pub returns-in-Ok-clause-runs : goal.returns-in-Ok-clause-runs
returns-in-Ok-clause-runs g c =
    ran c.verify_for.new.lanes c.in-Ok.run' (rw c.in-Ok-None.field-0-is at c.in-Ok-None.ensures.verifies) c.in-Ok.ensures.executes

pub returns-in-Ok-clause-lanes : goal.returns-in-Ok-clause-lanes
returns-in-Ok-clause-lanes g c =
    LanesStay-trans g.S.Source.seen c.args.lanes.now c.verify_for.new.lanes c.execute_attached.new.lanes c.verify_for.ensures.lanes c.execute_attached.ensures.executes.stay

pub returns-in-Err-execute_attached-clause-runs : goal.returns-in-Err-execute_attached-clause-runs
returns-in-Err-execute_attached-clause-runs g c =
    halted c.verify_for.new.lanes c.in-Err-execute_attached.fault (rw c.in-Ok-None.field-0-is at c.in-Ok-None.ensures.verifies)
    c.in-Err-execute_attached.ensures.executes

pub returns-in-Err-execute_attached-clause-lanes : goal.returns-in-Err-execute_attached-clause-lanes
returns-in-Err-execute_attached-clause-lanes g c =
    LanesStay-trans g.S.Source.seen c.args.lanes.now c.verify_for.new.lanes c.execute_attached.new.lanes c.verify_for.ensures.lanes c.execute_attached.ensures.executes.stay
