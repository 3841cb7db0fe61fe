use Rattle.std.proofs.Common.{get_or, arith}
use Rattle.std.proofs.lemmas.Option.{slice_get-get_or}
use Rattle.lists.proofs.Members.{contains_got}
use Rattle.plan_batches.proofs.kept.picked.Goals as goal

pub rows_at-requires : goal.rows_at-requires
rows_at-requires c =
    c.requires (get_or c.args.numbers.now c.loop-number.number-index 0)
    (contains_got c.args.numbers.now c.loop-number.number-index (get_or c.args.numbers.now c.loop-number.number-index 0)
    (slice_get-get_or c.args.numbers.now c.loop-number.number-index 0 (omega arith)))
