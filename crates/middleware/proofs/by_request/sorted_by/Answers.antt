use Rattle.middleware.proofs.Distinct.{moved_same}
use Rattle.middleware.proofs.by_request.sorted_by.Goals as goal

pub returns : goal.returns
returns c = λ row.
    moved_same (λ m. m.row) c.in_ok-members.members.items c.sort_unstable_by.new.self.items c.args.rows.now c.in_ok-sorted.sorted
    c.in_ok-members.ensures c.sort_unstable_by.ensures.permutation (rw c.as_slice.ensures.value at c.in_ok-sorted.ensures) row
