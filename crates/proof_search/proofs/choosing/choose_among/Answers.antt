use Rattle.std.proofs.Common.{◌≡◌, Option, Some, None, rules, sym, ap, ◌∙◌, subst, arith}
use Rattle.access_schema.specs.Meaning.{meaning_of}
use Rattle.meaning.proofs.Steps.{lawful_named}
use Rattle.least_search.specs.declared.node.Node.{Node}
use Rattle.least_search.specs.Walks.{CanGain}
use Rattle.least_search.specs.Costs.{IsLeastCost, best_cost}
use Rattle.exposure_search.specs.Exploring.{Exploring, space_size, CanExpose, GainsAt, HasGoalAt}
use Rattle.exposure_search.proofs.Explored.{goals_grown}
use Rattle.proof_search.specs.Choices.{CostsAtMost}
use Rattle.proof_search.specs.Questions.{IsBranchOn, IsSpaceOn}
use Rattle.proof_search.proofs.Based.{named_for}
use Rattle.proof_search.proofs.Cheaper.{space_on, chosen_on}
use Rattle.proof_search.proofs.choosing.choose_among.Goals as goal

pub cost-bound-requires-clause-named : goal.cost-bound-requires-clause-named
cost-bound-requires-clause-named c =
    let question = c.args.question.now in lawful_named (meaning_of question.schema.now) question.known.now 0 c.args.first.steps c.args.first.output c.requires.first.rival.lawful

pub new-requires-clause-named : goal.new-requires-clause-named
new-requires-clause-named c =
    let question = c.args.question.now in
    let can = c.requires.question.queries question.query.now c.requires.question.among in
    named_for question c.requires.question question.query.now can.fits can.constants c.requires.question.head c.args.base c.requires.base c.requires.start c.requires.constants c.args.goals.now c.requires.goals.within

pub new-requires-clause-counted : goal.new-requires-clause-counted
new-requires-clause-counted c goal among = (c.requires.question.queries goal (c.requires.goals.within goal among)).counted

pub new-requires-clause-few : goal.new-requires-clause-few
new-requires-clause-few c = let most = c.requires.question.few in let few = c.requires.goals.few in omega arith

pub cheaper-requires-clause-goals : goal.cheaper-requires-clause-goals
cheaper-requires-clause-goals c = ap (λ (x : Exploring). x.queries) (c.in-Ok.ensures.back ∙ c.in_ok-space.ensures.space)

pub search_below-requires-clause-grow : goal.search_below-requires-clause-grow
search_below-requires-clause-grow c = goals_grown c.in_ok-space.space

pub returns-in_default-better : goal.returns-in_default-better
returns-in_default-better c =
    let question = c.args.question.now in
    let space = c.in_ok-space.space in
    let its : IsSpaceOn question space = space_on question c.requires.question c.args.base c.requires.base
    c.requires.start c.requires.constants c.requires.few c.args.goals.now c.requires.goals space
    c.in_ok-space.ensures.space c.in_ok-space.ensures.founded in
    let found : c.in-Ok.field-0.better ≡ None = search (c.in_default-better.is, rules) in
    let costs : CostsAtMost (meaning_of question.schema.now) c.args.first c.cost-bound.result = (c.cost-bound.result, c.cost-bound.ensures, omega arith) in
    chosen_on question c.requires.question space its c.args.search c.args.first c.least_of-least.result c.requires.first c.cost-bound.result costs c.in-Ok.field-0.ended
    c.least_of-least.ensures.shown c.least_of-least.ensures.search c.least_of-least.ensures.firings
    (λ end. subst (λ (b : Option Node). IsLeastCost (space_size space) (CanGain (CanExpose space) (GainsAt space)) (HasGoalAt space) (best_cost c.cost-bound.result b)) found (c.in-Ok.ensures.found.shown end))
    c.in-Ok.ensures.found.spent (λ units e. (c.cost-bound.result, c.cost-bound.ensures, c.in-Ok.ensures.found.more units e)) c.in-Ok.ensures.found.firings

pub cheaper-requires-clause-space : goal.cheaper-requires-clause-space
cheaper-requires-clause-space c =
    let question = c.args.question.now in
    subst (IsSpaceOn question) (sym c.in-Ok.ensures.back)
    (space_on question c.requires.question c.args.base c.requires.base c.requires.start c.requires.constants
    c.requires.few c.args.goals.now c.requires.goals c.in_ok-space.space c.in_ok-space.ensures.space
    c.in_ok-space.ensures.founded)

pub returns-in-Some-2 : goal.returns-in-Some-2
returns-in-Some-2 c =
    let question = c.args.question.now in
    let space = c.in_ok-space.space in
    let its : IsSpaceOn question space = space_on question c.requires.question c.args.base c.requires.base
    c.requires.start c.requires.constants c.requires.few c.args.goals.now c.requires.goals space
    c.in_ok-space.ensures.space c.in_ok-space.ensures.founded in
    let one : IsBranchOn question c.in-Some-2.branch = rw c.in-Some-2.is at c.in_ok-branch.ensures.branch in
    let found : c.in-Ok.field-0.better ≡ Some c.in-Some.node = search (c.in-Some.is, rules) in
    let costs : CostsAtMost (meaning_of question.schema.now) c.in-Some-2.branch c.in-Some.node.cost = rw c.in-Some-2.is at c.in_ok-branch.ensures.cost in
    chosen_on question c.requires.question space its c.args.search c.in-Some-2.branch c.least_of-least.result one c.in-Some.node.cost costs c.in-Ok.field-0.ended
    c.least_of-least.ensures.shown c.least_of-least.ensures.search c.least_of-least.ensures.firings
    (λ end. subst (λ (b : Option Node). IsLeastCost (space_size space) (CanGain (CanExpose space) (GainsAt space)) (HasGoalAt space) (best_cost c.cost-bound.result b)) found (c.in-Ok.ensures.found.shown end))
    c.in-Ok.ensures.found.spent (λ units e. let none : None ≡ Some c.in-Some.node = sym (c.in-Ok.ensures.found.none units e) ∙ found in absurd (cc)) c.in-Ok.ensures.found.firings
