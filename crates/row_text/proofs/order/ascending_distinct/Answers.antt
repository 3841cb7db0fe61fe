use Rattle.row_text.proofs.order.ascending_distinct.Goals as goal

pub returns : goal.returns
returns c = record {
  ascends = rw (c.in_ok-distinct.ensures, c.as_slice.ensures.value) c.in_ok-members.ensures.ascends;
  same = λ row. rw (c.in_ok-distinct.ensures, c.as_slice.ensures.value) (c.in_ok-members.ensures.same row);
}
