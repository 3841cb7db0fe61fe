-- The text of the last row alone.
use Rattle.std.proofs.Common.{◌≡◌, ◌-◌, ◌≤◌, ◌∙◌, [], length, get_or, ap, arith}
use Rattle.std.proofs.lemmas.Result.{IfOk-weaker}
use Rattle.command_io.proofs.Summaries.{one_line, last_is}
use Rattle.command_io.proofs.summary.last_line.Goals as goal

pub returns : goal.returns
returns c =
    let rows = c.args.rows.now in
    let some : 1 ≤ length rows = omega (arith, c.len.ensures, c.if-len-eq0.false) in
    let last : c.in_ok-last.last ≡ get_or rows (length rows - 1) [] = c.in_ok-last.ensures ∙ c.at.ensures ∙ ap (λ n. get_or rows (n - 1) []) c.len-2.ensures in
    IfOk-weaker c.csv_text-2.result _ _ (λ text is. one_line c.in_ok-last.last text is ∙ last_is rows c.in_ok-last.last some last) (rw c.new.ensures at c.csv_text-2.ensures)
