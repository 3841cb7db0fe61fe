use Rattle.std.proofs.Common.{List, subst}
use Rattle.meaning.specs.declared.types.Query.{Query}
use Rattle.proof_search.specs.Choices.{ArePossibleGoals}
use Rattle.proof_search.proofs.PossibleGoals.{possible_of_more}
use Rattle.proof_search.proofs.goals.possible_goals.Goals as goal

pub returns : goal.returns
returns c =
    let question = c.args.question.now in
    let facts = c.in_ok-facts.facts in
    possible_of_more question.queries.now question.head.now facts c.args.base.now.end.base c.in_ok-goals.goals c.in_ok-facts.ensures
    (subst (λ (list : List Query). ArePossibleGoals list question.head.now facts c.in_ok-goals.goals) c.as_slice-queries.ensures c.in_ok-goals.ensures)
