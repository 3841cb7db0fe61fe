use Rattle.meaning_laws.proofs.StaffPlans.{careless_is_lawful, adding_is_a_model, careless_has_the_row, careless_is_not_equivalent}
use Rattle.meaning_laws.proofs.worked.careless_plan_adds_a_row.Goals as goal

pub returns : goal.returns
returns c = record {
  lawful = careless_is_lawful;
  model = adding_is_a_model;
  row = careless_has_the_row;
  not_equivalent = careless_is_not_equivalent;
}
