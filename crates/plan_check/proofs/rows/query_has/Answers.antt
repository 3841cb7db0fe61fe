use Rattle.std.proofs.Common.{replicate}
use Rattle.std.specs.Prelude.{None}
use Rattle.homomorphism.specs.Narrowing.{Narrows, Differs}
use Rattle.accessible_copy.proofs.HeadMatches.{head_none, head_differs}
use Rattle.plan_check.proofs.rows.query_has.Goals as goal

pub returns-in_ok-has_match-in-Some-clause-no : goal.returns-in_ok-has_match-in-Some-clause-no
returns-in_ok-has_match-in-Some-clause-no c = λ is.
    let n : Narrows c.args.query.now.head c.args.head.now (replicate c.args.query.now.variables None) c.in-Some.narrow = rw c.in-Some.is at (rw c.as_slice.ensures at (rw c.in_ok-given.ensures at c.in_ok-narrow.ensures)) in
    head_none c.args.store.now c.args.query.now c.args.head.now c.in-Some.narrow n (c.in_ok-has_match-in-Some.ensures.no is)

pub returns-in-None-clause-no : goal.returns-in-None-clause-no
returns-in-None-clause-no c = λ _.
    let n : Differs c.args.query.now.head c.args.head.now (replicate c.args.query.now.variables None) = rw c.in-None.is at (rw c.as_slice.ensures at (rw c.in_ok-given.ensures at c.in_ok-narrow.ensures)) in
    head_differs c.args.store.now c.args.query.now c.args.head.now n
