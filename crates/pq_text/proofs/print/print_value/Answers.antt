use Rattle.std.proofs.Common.{sym, subst}
use Rattle.std.proofs.lemmas.Result.{on_ok_weaker}
use Rattle.std.specs.Str.{IsUtf8}
use Rattle.pq_text.specs.Printing.{printed_value}
use Rattle.pq_text.proofs.PrintedTexts.{value_utf8, appended_utf8}
use Rattle.pq_text.proofs.print.print_value.Goals as goal

pub returns-clause-utf8 : goal.returns-clause-utf8
returns-clause-utf8 c =
    let text = subst IsUtf8 (sym c.as_bytes.ensures.value) c.as_str-text.utf8 in
    on_ok_weaker c.push_between.result
    (λ written. appended_utf8 c.args.out.now.items c.push_between.new.out.items (printed_value c.as_bytes.result.now) written (value_utf8 c.as_bytes.result.now text))
    c.push_between.ensures
