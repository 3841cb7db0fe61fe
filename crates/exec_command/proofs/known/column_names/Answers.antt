-- The next name comes behind the names so far.
use Rattle.std.proofs.Common.{◌∙◌, sym, arith}
use Rattle.std.proofs.lemmas.List.FromFn.{map-range_with_len_more}
use Rattle.exec_command.specs.Known.{column_name}
use Rattle.exec_command.proofs.known.column_names.Goals as goal

pub loop-number-preserved : goal.loop-number-preserved
loop-number-preserved c =
    c.in_ok-push.ensures.items ∙
    rw (c.loop-number.invariant, c.in_ok-column_name.ensures) (sym (map-range_with_len_more column_name 0 c.loop-number.number c.loop-number.number (omega arith)))
