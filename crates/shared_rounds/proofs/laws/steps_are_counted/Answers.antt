use Rattle.meaning.specs.declared.types.Plan.{Plan}
use Rattle.shared_rounds.proofs.Counting.{all_long, is_nth}
use Rattle.shared_rounds.proofs.laws.steps_are_counted.Goals as goal

pub returns-clause-nth : goal.returns-clause-nth
returns-clause-nth c = is_nth

pub returns-clause-all : goal.returns-clause-all
returns-clause-all c = λ (plan : Plan). all_long 0 plan.branches
