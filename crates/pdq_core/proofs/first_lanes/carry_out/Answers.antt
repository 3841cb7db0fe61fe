-- Each task ends as its command does.
use Rattle.pdq_core.proofs.first_lanes.carry_out.Goals as goal

pub run_query-requires-clause-within : goal.run_query-requires-clause-within
run_query-requires-clause-within g c κs within =
    let few = rw c.in-Run.is at c.requires.within in
    record { firings = few.0; search = few.1; calls = c.requires.calls }

pub returns-in-Run-clause-ends : goal.returns-in-Run-clause-ends
returns-in-Run-clause-ends g c = let is = c.in-Run.is in rw is c.run_query.ensures.ends

pub run_batch-requires-clause-within : goal.run_batch-requires-clause-within
run_batch-requires-clause-within g c κs within =
    let few = rw c.in-Batch.is at c.requires.within in
    record { firings = few.0; search = few.1; calls = c.requires.calls }

pub returns-in-Batch-clause-ends : goal.returns-in-Batch-clause-ends
returns-in-Batch-clause-ends g c = let is = c.in-Batch.is in rw is c.run_batch.ensures.ends

pub returns-in-Exec-clause-ends : goal.returns-in-Exec-clause-ends
returns-in-Exec-clause-ends g c = let is = c.in-Exec.is in rw is c.exec_plan.ensures.ends

pub returns-in-Crawl-clause-ends : goal.returns-in-Crawl-clause-ends
returns-in-Crawl-clause-ends g c = let is = c.in-Crawl.is in rw is c.crawl_schema.ensures.ends

pub returns-in-Reach-clause-ends : goal.returns-in-Reach-clause-ends
returns-in-Reach-clause-ends g c = let is = c.in-Reach.is in rw is c.reach_query.ensures.ends
