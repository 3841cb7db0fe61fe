use Rattle.std.proofs.lemmas.List.Sorted.{IsPermutation-map}
use Rattle.plan_extract.specs.Lent.{exposure_of}
use Rattle.plan_extract.proofs.ranking.arranged.Goals as goal

pub returns-then-branch-clause-same : goal.returns-then-branch-clause-same
returns-then-branch-clause-same c =
    IsPermutation-map exposure_of c.args.kept.items c.in_ok-list.list.items (rw c.as_slice-2.ensures.value at c.in_ok-list.ensures)
