use Rattle.std.proofs.Common.{◌∙◌, map}
use Rattle.row_text.proofs.text.csv_text.Goals as goal

pub returns : goal.returns
returns c = record {
  rows = map (λ m. m.row) c.in_ok-members.members.items;
  ascends = c.in_ok-members.ensures.ascends;
  members = c.in_ok-members.ensures.same;
  lines = rw c.as_slice.ensures.value at (c.from_vec.ensures ∙ c.in_ok-text.ensures);
}
