use Rattle.std.proofs.lemmas.List.Filters.{dedup_is}
use Rattle.row_text.proofs.Mapped.{ascends-mapped, same-mapped}
use Rattle.row_text.proofs.order.ascending_members.Goals as goal

pub returns : goal.returns
returns c =
    let is = dedup_is _ _ _ c.dedup.ensures.filtered in
    record {
      ascends = rw is (ascends-mapped (λ m. m.row) _ c.sort_unstable.ensures.sorted);
      same = λ row. rw (is, ← c.in_ok-members.ensures) (same-mapped (λ m. m.row) _ _ c.sort_unstable.ensures.permutation row);
    }
