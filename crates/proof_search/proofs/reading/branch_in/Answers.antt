use Rattle.std.proofs.Common.{sym, subst, arith}
use Rattle.std.specs.Prelude.{Contains}
use Rattle.accessible_copy.specs.Goals.{IsGoal}
use Rattle.proof_search.proofs.Found.{proof_for, goal_branch}
use Rattle.proof_search.proofs.reading.branch_in.Goals as goal

pub extract_arranged-requires-clause-proof : goal.extract_arranged-requires-clause-proof
extract_arranged-requires-clause-proof c = (c.args.question.now.query.now, proof_for c.args.question.now c.requires.question c.args.proof.now c.requires.search)

pub extract_arranged-requires-clause-few : goal.extract_arranged-requires-clause-few
extract_arranged-requires-clause-few c = let few = c.requires.search.few in let low = c.requires.question.firings in omega arith

pub extract_arranged-requires-clause-known : goal.extract_arranged-requires-clause-known
extract_arranged-requires-clause-known c constant among = subst (λ known. Contains known constant) (sym c.requires.search.constants) (c.requires.question.known constant among)

pub extract_arranged-requires-clause-fits : goal.extract_arranged-requires-clause-fits
extract_arranged-requires-clause-fits c other among = (c.requires.question.queries other among).fits

pub returns-clause-branch : goal.returns-clause-branch
returns-clause-branch c =
    let question = c.args.question.now in
    let found : IsGoal question.queries.now c.args.proof.now.end.copy question.head.now c.in-Some.found.select c.in-Some.found.assignment.vals = rw c.in-Some.is at c.in_ok-found.ensures.some in
    goal_branch question c.requires.question c.args.proof.now c.requires.search.constants c.requires.search.few (proof_for question c.requires.question c.args.proof.now c.requires.search) question.queries.now (λ q among. among)
    c.in-Some.found.assignment.vals c.in-Some.found.select c.in_ok-branch.branch found c.in_ok-branch.ensures.branch c.in_ok-branch.ensures.few
