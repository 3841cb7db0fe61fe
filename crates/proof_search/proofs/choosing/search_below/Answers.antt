use Rattle.std.proofs.Common.{sym, subst}
use Rattle.least_search.specs.Walks.{GoalsGrow}
use Rattle.exposure_search.specs.Exploring.{HasGoalAt, IsFounded}
use Rattle.exposure_search.proofs.Spending.{more_to_do}
use Rattle.proof_search.specs.Choices.{IsFound}
use Rattle.proof_search.proofs.choosing.search_below.Goals as goal

pub cheapest-found-requires-clause-grow : goal.cheapest-found-requires-clause-grow
cheapest-found-requires-clause-grow c = subst (λ space. GoalsGrow (HasGoalAt space)) (sym c.in_ok-cuts.ensures.back) c.requires.grow

pub returns-clause-found : goal.returns-clause-found
returns-clause-found c =
    let found = c.in_ok-found.ensures in
    let founded = subst (λ space. IsFounded space) (sym c.in_ok-cuts.ensures.back) c.requires.founded in
    subst (λ space. IsFound space c.args.bound c.args.search c.in_ok-found.field-0) c.in_ok-cuts.ensures.back (record {
      better = found.better;
      shown = found.shown;
      spent = found.search;
      none = found.none;
      more = λ units e. more_to_do _ _ c.args.bound c.args.search founded (found.spent units e);
      firings = found.firings;
    })
