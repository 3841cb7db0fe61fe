use Rattle.std.proofs.Common.{◌<◌, ◌-◌, ◌∙◌, [], length, sym, arith}
use Rattle.std.proofs.lemmas.List.{get_or_default}
use Rattle.middleware.proofs.by_request.ends_with.Goals as goal

pub returns : goal.returns
returns c = λ yes.
    let last = c.len-count.result - 1 in
    let within : last < length c.args.rows.now = omega arith in
    (last, within, sym (get_or_default c.args.rows.now last [] c.args.row.now within) ∙ sym c.at.ensures ∙ c.are_same.ensures yes)
