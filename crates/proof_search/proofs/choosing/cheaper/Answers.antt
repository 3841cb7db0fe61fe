use Rattle.std.proofs.Common.{◌≡◌, ◌⊎◌, sym, subst, rules, arith}
use Rattle.std.specs.Prelude.{Contains}
use Rattle.accessible_copy.specs.Goals.{IsGoal}
use Rattle.exposure_search.specs.Exploring.{HasGoalAt, HasRunBeyond}
use Rattle.exposure_search.specs.Visiting.{IsReached}
use Rattle.proof_search.proofs.Found.{goal_branch}
use Rattle.proof_search.proofs.Cheaper.{not_reached_here, reached_constants, reached_few, reached_for, reached_goal, goals_within, reached_cost}
use Rattle.proof_search.proofs.choosing.cheaper.Goals as goal

pub returns-in_default-clause-none : goal.returns-in_default-clause-none
returns-in_default-clause-none c =
    let set : c.deref-2.result.now ≡ c.args.node.now.set.items = search rules in
    let none : HasRunBeyond c.args.space ⊎ (HasGoalAt c.args.space c.deref-2.result.now → ⊥) = rw c.in_default.is at c.in_ok-proof.ensures.none in
    not_reached_here c.args.question.now c.requires.question c.args.space c.requires.space c.args.node.now.set.items c.requires.goal (subst (λ s. HasRunBeyond c.args.space ⊎ (HasGoalAt c.args.space s → ⊥)) set none)

pub extract_arranged-read-requires-clause-proof : goal.extract_arranged-read-requires-clause-proof
extract_arranged-read-requires-clause-proof c =
    let reached : IsReached c.args.space c.deref.result.now c.in-Some.proof = search rules in
    (c.args.question.now.query.now, reached_for c.args.question.now c.requires.question c.args.space c.requires.space c.deref.result.now c.in-Some.proof reached)

pub extract_arranged-read-requires-clause-few : goal.extract_arranged-read-requires-clause-few
extract_arranged-read-requires-clause-few c =
    let reached : IsReached c.args.space c.deref.result.now c.in-Some.proof = search rules in
    let few = reached_few c.args.question.now c.requires.question c.args.space c.requires.space c.deref.result.now c.in-Some.proof reached in
    let low = c.requires.question.firings in
    omega arith

pub extract_arranged-read-requires-clause-known : goal.extract_arranged-read-requires-clause-known
extract_arranged-read-requires-clause-known c constant among =
    let reached : IsReached c.args.space c.deref.result.now c.in-Some.proof = search rules in
    let constants = reached_constants c.args.question.now c.requires.question c.args.space c.requires.space c.deref.result.now c.in-Some.proof reached in
    subst (λ known. Contains known constant) (sym constants) (c.requires.question.known constant among)

pub extract_arranged-read-requires-clause-fits : goal.extract_arranged-read-requires-clause-fits
extract_arranged-read-requires-clause-fits c other among = (c.requires.question.queries other (goals_within c.args.question.now c.requires.question c.args.space c.requires.space c.args.goals.now c.requires.goals other among)).fits

pub returns-clause-branch : goal.returns-clause-branch
returns-clause-branch c =
    let question = c.args.question.now in
    let reached : IsReached c.args.space c.deref.result.now c.in-Some.proof = search rules in
    let there : IsGoal c.args.space.queries c.in-Some.proof.end.copy c.args.space.head c.in-Some.found.select c.in-Some.found.assignment.vals = search rules in
    let found : IsGoal c.args.goals.now c.in-Some.proof.end.copy question.head.now c.in-Some.found.select c.in-Some.found.assignment.vals = reached_goal question c.requires.question c.args.space c.requires.space c.deref.result.now c.in-Some.proof reached c.args.goals.now c.requires.goals c.in-Some.found.select c.in-Some.found.assignment.vals there in
    goal_branch question c.requires.question c.in-Some.proof (reached_constants question c.requires.question c.args.space c.requires.space c.deref.result.now c.in-Some.proof reached)
    (reached_few question c.requires.question c.args.space c.requires.space c.deref.result.now c.in-Some.proof reached) (reached_for question c.requires.question c.args.space c.requires.space c.deref.result.now c.in-Some.proof reached)
    c.args.goals.now (goals_within question c.requires.question c.args.space c.requires.space c.args.goals.now c.requires.goals)
    c.in-Some.found.assignment.vals c.in-Some.found.select c.in_ok-branch.branch found c.in_ok-branch.ensures.branch c.in_ok-branch.ensures.few

pub returns-clause-cost : goal.returns-clause-cost
returns-clause-cost c =
    let question = c.args.question.now in
    let reached : IsReached c.args.space c.deref.result.now c.in-Some.proof = search rules in
    let path : c.deref.result.now ≡ c.args.node.now.path.items = search rules in
    reached_cost question c.requires.question c.args.space c.requires.space c.deref.result.now c.in-Some.proof reached c.args.node.now c.requires.node path c.args.goals.now c.in-Some.found.assignment.vals c.in-Some.found.select c.in_ok-branch.branch c.in_ok-branch.ensures.arranged
