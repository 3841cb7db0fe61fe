use Rattle.plan_check.proofs.Sizes.{few_columns}
use Rattle.plan_check.proofs.laws.few_places_make_few_columns.Goals as goal

pub returns : goal.returns
returns c = λ plan few. few_columns plan few
