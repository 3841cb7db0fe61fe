-- Sorting and dropping doubles keep each member.
use Rattle.std.specs.Prelude.{nat_eq}
use Rattle.std.specs.Cmp.Lexicographic.{pointwise}
use Rattle.std.proofs.lemmas.Cmp.{nat_list_eq_equiv}
use Rattle.std.proofs.lemmas.List.Filters.{dedup_is}
use Rattle.std.proofs.lemmas.List.Kept.{Contains-dedup, Contains-from_dedup}
use Rattle.std.proofs.lemmas.List.Sorted.{Contains-permutation, IsPermutation-sym}
use Rattle.lists.proofs.Orders.{text_is}
use Rattle.exec_command.proofs.known.keep_once.Goals as goal

pub returns : goal.returns
returns c =
    let is = dedup_is _ _ _ c.dedup.ensures.filtered in
    let moved = c.sort_unstable.ensures.permutation in
    λ x. (
      (λ h. Contains-permutation _ _ x (IsPermutation-sym _ _ moved) (Contains-from_dedup (pointwise nat_eq) _ x (rw is at h))),
      (λ h. rw is (Contains-dedup nat_list_eq_equiv text_is _ x (Contains-permutation _ _ x moved h))),
    )
