use Rattle.std.proofs.Common.{◌≡◌, Option, true, subst, arith}
use Rattle.access_schema.specs.Meaning.{meaning_of}
use Rattle.meaning.proofs.Steps.{lawful_named}
use Rattle.least_search.specs.declared.node.Node.{Node}
use Rattle.least_search.specs.Walks.{CanGain}
use Rattle.least_search.specs.Costs.{IsLeastCost, best_cost}
use Rattle.exposure_search.specs.Exploring.{space_size, CanExpose, GainsAt, HasGoalAt}
use Rattle.exposure_search.proofs.Explored.{goals_grown}
use Rattle.proof_search.specs.Choices.{CostsAtMost}
use Rattle.proof_search.proofs.ClosedQueries.{named_over, least_over}
use Rattle.proof_search.proofs.bounding.is_least_among.Goals as goal

pub cost-bound-requires-clause-named : goal.cost-bound-requires-clause-named
cost-bound-requires-clause-named c =
    let question = c.args.question.now in lawful_named (meaning_of question.schema.now) question.known.now 0 c.args.branch.now.steps c.args.branch.now.output c.requires.branch.rival.lawful

pub new-requires-clause-named : goal.new-requires-clause-named
new-requires-clause-named c =
    named_over c.args.question.now c.requires.question c.args.more.now c.requires.closed c.args.base c.requires.base c.requires.start c.requires.constants c.args.goals.now c.requires.goals.within

pub new-requires-clause-counted : goal.new-requires-clause-counted
new-requires-clause-counted c goal among = (c.requires.question.queries goal (c.requires.goals.within goal among)).counted

pub new-requires-clause-few : goal.new-requires-clause-few
new-requires-clause-few c = let most = c.requires.question.few in let few = c.requires.goals.few in omega arith

pub search_below-found-requires-clause-grow : goal.search_below-found-requires-clause-grow
search_below-found-requires-clause-grow c = goals_grown c.in_ok-space.space

pub returns : goal.returns
returns c e =
    let question = c.args.question.now in
    let space = c.in_ok-space.space in
    let on : c.is_shown.result ≡ true = cc in
    let said = c.is_shown.ensures on in
    let costs : CostsAtMost (meaning_of question.schema.now) c.args.branch.now c.cost-bound.result = (c.cost-bound.result, c.cost-bound.ensures, omega arith) in
    let least : IsLeastCost (space_size space) (CanGain (CanExpose space) (GainsAt space)) (HasGoalAt space) c.cost-bound.result =
    subst (λ (better : Option Node). IsLeastCost (space_size space) (CanGain (CanExpose space) (GainsAt space)) (HasGoalAt space) (best_cost c.cost-bound.result better)) said.1 (c.in_ok-outcome.ensures.found.shown said.0) in
    least_over question c.requires.question c.args.more.now c.requires.closed c.args.base c.requires.base
    c.requires.start c.requires.constants c.requires.base_few c.args.goals.now c.requires.goals space
    c.in_ok-space.ensures.space c.in_ok-space.ensures.founded
    c.cost-bound.result least c.args.branch.now costs
