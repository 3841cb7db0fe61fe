use Rattle.exposure_search.proofs.Spending.{more_to_do}
use Rattle.exposure_search.proofs.laws.spent_has_more.Goals as goal

pub returns : goal.returns
returns c = more_to_do
