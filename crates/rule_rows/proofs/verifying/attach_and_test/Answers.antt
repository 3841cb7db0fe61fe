-- What became of the rules, by where the function returns.
use Rattle.source_trait.proofs.LaneSteps.{LanesStay-trans}
use Rattle.middleware.specs.Needs.{needed}
use Rattle.rule_rows.specs.Verifying.Verifies.{not_attached, not_asked, tested}
use Rattle.rule_rows.proofs.Missing.{first_ready, own_listed}
use Rattle.rule_rows.proofs.verifying.attach_and_test.Goals as goal

pub returns-in-Err-clause-verifies : goal.returns-in-Err-clause-verifies
returns-in-Err-clause-verifies g c = not_attached c.in-Err.fault c.in-Err.ensures.attaches

pub test_on_first-requires-clause-ready : goal.test_on_first-requires-clause-ready
test_on_first-requires-clause-ready g c κs within = λ rel among.
    first_ready c.args.schema.now g.S.Source.seen (needed c.args.first.now c.args.others.now) c.args.lanes.now c.attach_needed.new.lanes
    c.in-Ok.ensures.attaches rel among

pub returns-in-Ok-test_on_first-clause-verifies : goal.returns-in-Ok-test_on_first-clause-verifies
returns-in-Ok-test_on_first-clause-verifies g c =
    tested c.attach_needed.new.lanes c.in-Ok-test_on_first.found c.in-Ok.ensures.attaches (record {
      rels = c.args.first.now;
      are = own_listed c.args.first.now c.args.others.now c.requires.ascend.0;
      tests = c.in-Ok-test_on_first.ensures.tests;
      behind = c.in-Ok-test_on_first.ensures.others;
      stay = c.in-Ok-test_on_first.ensures.lanes;
    })

pub returns-in-Ok-test_on_first-clause-lanes : goal.returns-in-Ok-test_on_first-clause-lanes
returns-in-Ok-test_on_first-clause-lanes g c =
    LanesStay-trans g.S.Source.seen c.args.lanes.now c.attach_needed.new.lanes c.test_on_first.new.lanes c.in-Ok.ensures.lanes c.test_on_first.ensures.lanes

pub returns-in-Err-test_on_first-clause-verifies : goal.returns-in-Err-test_on_first-clause-verifies
returns-in-Err-test_on_first-clause-verifies g c =
    not_asked c.attach_needed.new.lanes c.in-Err-test_on_first.fault c.in-Ok.ensures.attaches (record {
      rels = c.args.first.now;
      are = own_listed c.args.first.now c.args.others.now c.requires.ascend.0;
      tests = c.in-Err-test_on_first.ensures.tests;
      behind = c.in-Err-test_on_first.ensures.others;
      stay = c.in-Err-test_on_first.ensures.lanes;
    })

pub returns-in-Err-test_on_first-clause-lanes : goal.returns-in-Err-test_on_first-clause-lanes
returns-in-Err-test_on_first-clause-lanes g c =
    LanesStay-trans g.S.Source.seen c.args.lanes.now c.attach_needed.new.lanes c.test_on_first.new.lanes c.in-Ok.ensures.lanes c.test_on_first.ensures.lanes
